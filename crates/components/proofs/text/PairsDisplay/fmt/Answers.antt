use Rattle.std.proofs.Common.{◌≡◌, ℕ, List, ◌++◌, rules, sym, ap, ◌∙◌, append_assoc}
use Rattle.std.proofs.Output.{has_written_append}
use Rattle.std.proofs.lemmas.Grind.{flat_map-append}
use Rattle.std.proofs.lemmas.Str.{IsUtf8-from_ascii}
use Rattle.std.specs.Slice.Iter.{chunks_rest}
use Rattle.components.specs.Wording.{spaced_pair, pairs}
use Rattle.components.proofs.text.PairsDisplay.fmt.Goals as goal

pub unreachable-requires : goal.unreachable-requires
unreachable-requires g c =
    c.in_default.ensures.cases.0 (rw c.as_slice.ensures.value (IsUtf8-from_ascii _ c.spaced_pairs-text.ensures.ascii))

pub loop-octets-preserved : goal.loop-octets-preserved
loop-octets-preserved g c =
    let steps = c.in-Some.ensures.steps in
    let shown : c.in-Ok.text.now ≡ pairs c.in-Some.octets.now = c.in-Ok.ensures.cases.0 ∙ (c.as_slice.ensures.value ∙ c.spaced_pairs-text.ensures.pairs) in (
      search rules,
      tt,
      steps.0 ∙ c.loop-octets.invariant.2,
      λ plain.
          let so_far = c.loop-octets.invariant.3 plain in
          let rest : pairs c.in-Some.octets.now ++ pairs (chunks_rest c.next.new.self) ≡ pairs (chunks_rest c.loop-octets.octets-iterator)
          = sym (flat_map-append spaced_pair c.in-Some.octets.now _) ∙ ap pairs (sym steps.1.0) in (
            so_far.0 ++ c.in-Ok.text.now,
            has_written_append _ _ _ _ _ _ so_far.1 (search rules),
            append_assoc so_far.0 _ _ ∙ ap (λ (t : List ℕ). so_far.0 ++ t) (rw shown rest) ∙ so_far.2,
          ),
    )
