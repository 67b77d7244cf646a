use Rattle.std.proofs.Common.{◌≡◌, ◌+◌, length, Err, sym, ap, ◌∙◌}
use Rattle.std.proofs.lemmas.Result.{err_from_is_err_and}
use Rattle.ber.specs.Value.{tag}
use Rattle.components.specs.Cursor.{left, end_of}
use Rattle.components.specs.Reading.{bad_component, by_tag, reading, read_as}
use Rattle.components.proofs.Framing.{reading_head, reading_tag, reading_structure, reading_typed}
use Rattle.components.proofs.Rereading.{made_writes}
use Rattle.components.proofs.Rewriting.{octets_of_slice}
use Rattle.components.proofs.element.read_element.Goals as goal

pub returns-in_err-component-clause-reads : goal.returns-in_err-component-clause-reads
returns-in_err-component-clause-reads c =
    let p = err_from_is_err_and c.from_residual.result c.from_residual.ensures.1 in
    rw (p.1, p.2) (sym (reading_head c.args.octets.now _ c.in_err-component.ensures))

pub returns-in_err-kind-clause-reads : goal.returns-in_err-kind-clause-reads
returns-in_err-kind-clause-reads c =
    let p = err_from_is_err_and c.from_residual-in_err-kind.result c.from_residual-in_err-kind.ensures.1 in
    let found = c.in_ok-component.ensures in
    let bad = c.in_err-kind.ensures in
    rw (p.1, p.2) (ap Err bad.1 ∙ sym (reading_tag c.args.octets.now c.in_ok-component.component.now found.0 found.1 bad.0))

pub returns-in_err-check_component-clause-reads : goal.returns-in_err-check_component-clause-reads
returns-in_err-check_component-clause-reads c =
    let p = err_from_is_err_and c.from_residual-in_err-check_component.result c.from_residual-in_err-check_component.ensures.1 in
    let found = c.in_ok-component.ensures in
    let bad = c.in_err-check_component.ensures in
    rw (p.1, p.2) (ap Err bad.1 ∙ sym (reading_structure c.args.octets.now c.in_ok-component.component.now found.0 found.1 _ c.in_ok-kind.ensures.1 (ap bad_component found.1 ∙ bad.0)))

pub returns : goal.returns
returns c =
    let found = c.in_ok-component.ensures in
    let kind = c.in_ok-kind.ensures in
    let xs = c.args.octets.now in
    let ys = c.in_ok-component.component.now in
    let vs = c.values_of.result in
    let reads : read_as c.read_component.result ≡ reading xs =
    c.read_component.ensures
    ∙ ap (λ t. by_tag t (end_of vs) (left vs)) kind.0
    ∙ ap (λ end. by_tag (tag ys) end (left vs)) c.values_of.ensures.end
    ∙ ap (by_tag (tag ys) (3 + length ys)) c.values_of.ensures.left
    ∙ sym (reading_typed xs ys found.0 found.1 kind.1 (ap bad_component found.1 ∙ c.in_ok-check_component.ensures)) in
    record { reads = reads; rewrites = made_writes xs c.read_component.result (octets_of_slice xs c.type_inv.octets) reads }
