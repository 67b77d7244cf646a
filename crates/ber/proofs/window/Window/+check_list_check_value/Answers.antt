use Rattle.std.proofs.Common.{◌≡◌, ℕ, ◌+◌, ◌<◌, true, length, slice_index, Some, None, Option, Ok, Err, Result, sym, ap, ◌∙◌, arith, rules}
use Rattle.std.specs.List.{between}
use Rattle.std.specs.Option.{ok_or}
use Rattle.std.proofs.lemmas.Option.{MatchOption-at_none, MatchOption-at_some}
use Rattle.std.proofs.lemmas.Result.{err_from_is_err_and}
use Rattle.ber.specs.declared.window.BadValue.{BadValue}
use Rattle.ber.specs.declared.window.Window.{Window}
use Rattle.ber.specs.Windows.{shown, ListChecked}
use Rattle.ber.specs.Structure.{bad_value, bad_list}
use Rattle.ber.specs.Value.{is_constructed, tag}
use Rattle.ber.proofs.Nesting.{empty_list, no_level, value_cut, value_plain, list_first, window_length, value_within, front_length, front_tag, nested_window, later_window}
use Rattle.ber.proofs.window.Window.+check_list_check_value.Goals as goal
use Rattle.ber.proofs.window.Window.+check_list_check_value.Goals.{check_value-then-is_constructed+in_ok-check_list, check_value-else-is_constructed}

-- the check of the list behind a value is the check of the list
goes_on : (levels : ℕ) (before mid after : Window) (r : Result (Unit {0}) BadValue) → bad_list levels before.pos (shown before) ≡ bad_list levels mid.pos (shown mid) → mid.end ≡ before.end → ListChecked levels mid after r → ListChecked levels before after r
goes_on levels before mid after (Ok _) same end checked = (same ∙ checked.0, checked.1 ∙ end)
goes_on levels before mid after (Err bad) same end checked = same ∙ checked

-- the error is the one that stands in for a value that is missing
refused : {X E : Type 0} {d e : E} (o : Option X) → o ≡ None → Err d ≡ ok_or o e → d ≡ e
refused o h told = grind arith

pub check_list-returns-then-self-clause-checked : goal.check_list-returns-then-self-clause-checked
check_list-returns-then-self-clause-checked t c =
    let w = c.args.self.now in
    let e : length (between w.pos w.end w.octets.now) ≡ 0 = omega (arith, window_length w.pos w.end w.octets.now c.requires.within.0 c.requires.within.1, c.if-self.true) in
    (empty_list _ _ _ e, search rules)

pub check_list-returns-in_err-check_value-clause-checked : goal.check_list-returns-in_err-check_value-clause-checked
check_list-returns-in_err-check_value-clause-checked t c =
    let p = err_from_is_err_and c.from_residual.result c.from_residual.ensures.1 in
    let w = c.args.self.now in
    let some : 0 < length (between w.pos w.end w.octets.now) = omega (arith, window_length w.pos w.end w.octets.now c.requires.within.0 c.requires.within.1, c.if-self.false, c.requires.within.0) in
    rw (p.1, p.2) (list_first _ _ _ _ some c.in_err-check_value.ensures.checked)

pub check_list-returns-clause-checked : goal.check_list-returns-clause-checked
check_list-returns-clause-checked t c =
    let w = c.args.self.now in
    let mid = c.check_value.new.self in
    let told = c.in_ok-check_value.ensures in
    let more : w.pos < w.end = omega (arith, c.if-self.false, c.requires.within.0) in
    let same =
    later_window w.pos w.end w.octets.now c.requires.within.0 c.requires.within.1 c.args.levels mid.pos more told.checked.0 told.checked.1.0 told.checked.1.1
    ∙ ap (λ k. bad_list c.args.levels mid.pos (between mid.pos k w.octets.now)) (sym told.kept.end)
    ∙ ap (λ o. bad_list c.args.levels mid.pos (between mid.pos mid.end o.now)) (sym told.kept.octets) in
    goes_on c.args.levels w mid c.check_list.new.self c.check_list.result same told.kept.end c.check_list.ensures.checked

pub check_value-returns-in_err-inner-clause-checked : goal.check_value-returns-in_err-inner-clause-checked
check_value-returns-in_err-inner-clause-checked t c =
    let p = err_from_is_err_and c.from_residual.result c.from_residual.ensures.1 in
    let w = c.args.self.now in
    let told = c.in_err-inner.ensures in
    let none = MatchOption-at_none _ _ told.ok_part c.inner_levels.ensures in
    rw (p.1, p.2) (ap (λ n. bad_value n w.pos (shown w)) none ∙ no_level w.pos (shown w) ∙ ap (λ b. Some b.place) (sym (refused c.inner_levels.result told.ok_part told.value)))

pub check_value-returns-in_err-value-clause-checked : goal.check_value-returns-in_err-value-clause-checked
check_value-returns-in_err-value-clause-checked t c =
    let p = err_from_is_err_and c.from_residual-in_err-value.result c.from_residual-in_err-value.ensures.1 in
    let told = c.in_err-value.ensures in
    let deep = MatchOption-at_some _ _ _ c.in_ok-inner.ensures.ok_part c.inner_levels.ensures in
    let cut = MatchOption-at_none _ _ told.ok_part c.read_value.ensures in
    rw (p.1, p.2) (value_cut _ _ _ deep.0 cut ∙ ap (λ b. Some b.place) (sym (refused c.read_value.result told.ok_part told.value)))

pub check_value-returns-in_err-check_list-clause-checked : goal.check_value-returns-in_err-check_list-clause-checked
check_value-returns-in_err-check_list-clause-checked t c =
    let p = err_from_is_err_and c.from_residual-in_err-check_list.result c.from_residual-in_err-check_list.ensures.1 in
    let w = c.args.self.now in
    let ys = shown w in
    let found = MatchOption-at_some _ _ _ c.in_ok-value.ensures.ok_part c.read_value.ensures in
    let deep = MatchOption-at_some _ _ _ c.in_ok-inner.ensures.ok_part c.inner_levels.ensures in
    let nested : is_constructed (tag ys) ≡ true = ap is_constructed (sym (ap (λ l. slice_index l 0) found.1 ∙ front_tag ys)) ∙ sym c.is_constructed.ensures ∙ c.if-is_constructed.true in
    let long = ap length found.1 ∙ front_length ys found.0 in
    rw (p.1, p.2) (nested_window w.pos w.end w.octets.now c.requires.within.0 c.requires.within.1 c.args.levels _ _ deep.0 deep.1 found.0 nested long ∙ c.in_err-check_list.ensures.checked)

pub check_value-returns-clause-checked : goal.check_value-returns-clause-checked
check_value-returns-clause-checked t c =
    let w = c.args.self.now in
    let ys = shown w in
    let found = MatchOption-at_some _ _ _ c.in_ok-value.ensures.ok_part c.read_value.ensures in
    let deep = MatchOption-at_some _ _ _ c.in_ok-inner.ensures.ok_part c.inner_levels.ensures in
    let long = ap length found.1 ∙ front_length ys found.0 in
    let within = value_within w.pos w.end w.octets.now c.requires.within.0 c.requires.within.1 found.0 in
    let asked = ap is_constructed (sym (ap (λ l. slice_index l 0) found.1 ∙ front_tag ys)) ∙ sym c.is_constructed.ensures in
    let well : bad_value c.args.levels w.pos ys ≡ None =
    elim c.if-is_constructed.branch [
      | check_value-then-is_constructed+in_ok-check_list v ↦ nested_window w.pos w.end w.octets.now c.requires.within.0 c.requires.within.1 c.args.levels _ _ deep.0 deep.1 found.0 (asked ∙ v.if-is_constructed.true) long ∙ v.in_ok-check_list.ensures.checked.0
      | check_value-else-is_constructed v ↦ value_plain c.args.levels w.pos ys deep.0 found.0 (asked ∙ v.if-is_constructed.false)
    ] in
    (well, (ap (λ n. w.pos + n) long, omega (arith, within, long)))
