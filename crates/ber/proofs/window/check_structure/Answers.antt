use Rattle.std.proofs.Common.{◌+◌, ◌≤◌, length, sym, ap, ◌∙◌, arith}
use Rattle.std.proofs.lemmas.List.{drop_all, take_rest}
use Rattle.std.proofs.lemmas.Result.{err_from_is_err_and}
use Rattle.ber.specs.Structure.{bad_value}
use Rattle.ber.specs.Value.{size}
use Rattle.ber.proofs.Nesting.{nothing_there}
use Rattle.ber.proofs.window.check_structure.Goals as goal

pub returns-then-place-octets : goal.returns-then-place-octets
returns-then-place-octets c =
    let past : length c.args.octets.now ≤ c.args.place = omega (arith, c.if-place-octets.true) in
    ap (bad_value c.args.levels c.args.place) (drop_all c.args.place c.args.octets.now past) ∙ nothing_there c.args.levels c.args.place

pub returns-in_err-check_value : goal.returns-in_err-check_value
returns-in_err-check_value c =
    let p = err_from_is_err_and c.from_residual.result c.from_residual.ensures.1 in
    let same = take_rest c.args.octets.now c.args.place in
    rw (p.1, p.2) (ap (bad_value c.args.levels c.args.place) (sym same) ∙ c.in_err-check_value.ensures.checked)

pub returns : goal.returns
returns c =
    let same = take_rest c.args.octets.now c.args.place in
    let told = c.in_ok-check_value.ensures.checked in
    (ap (bad_value c.args.levels c.args.place) (sym same) ∙ told.0, told.1.0 ∙ ap (λ l. c.args.place + size l) same, told.1.1)
