use Rattle.std.proofs.Common.{◌≡◌, ◌+◌, ◌-◌, length, ap, refl, arith}
use Rattle.components.specs.Component.{said}
use Rattle.components.specs.Writing.{component_contents}
use Rattle.std.proofs.lemmas.Result.{err_from_is_err_and}
use Rattle.components.proofs.Putting.{element_put}
use Rattle.components.proofs.ReadBack.{refused, readable_from}
use Rattle.components.proofs.component.Component.write.Goals as goal

pub returns-in_err-put_values-clause-written : goal.returns-in_err-put_values-clause-written
returns-in_err-put_values-clause-written c =
    let p = err_from_is_err_and c.from_residual.result c.from_residual.ensures.1 in
    let told = c.in_err-put_values.ensures in
    rw (p.1, p.2) (refused (said c.args.self.now) c.args.memory.now c.in_err-put_values.field-0.0 told.sized (λ ok. omega (arith, told.put.0 ok, ap length c.new.ensures)) told.put.1)

pub returns-then-memory-size-clause-written : goal.returns-then-memory-size-clause-written
returns-then-memory-size-clause-written c =
    let s = said c.args.self.now in
    let told = c.in_ok-put_values.ensures in
    let is : c.put_values.new.self.octets.items ≡ component_contents s = cc in
    (readable_from s told.sized told.put.0 (omega (arith, c.len-length.ensures, ap length is)), omega (arith, c.len-length.ensures.value, ap length is), refl)

pub returns-clause-written : goal.returns-clause-written
returns-clause-written c =
    let s = said c.args.self.now in
    let told = c.in_ok-put_values.ensures in
    let n = c.len-length.result in
    let is : c.put_values.new.self.octets.items ≡ component_contents s = cc in
    let long : n ≡ length (component_contents s) = omega (arith, c.len-length.ensures.value, ap length is) in (
      readable_from s told.sized told.put.0 (omega (arith, c.len-length.ensures.fits)),
      omega arith,
      element_put s c.args.memory.now c.copy_from_slice.new.self c.copy_from_slice-2.new.self n (5 + n - 5) (cc) (cc) long (omega arith),
    )
