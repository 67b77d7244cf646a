use Rattle.std.proofs.Common.{◌≡◌, ℕ, ◌-◌, ◌≤◌, List, length, take, drop, replicate, ap, arith, length-append, length-drop}
use Rattle.std.proofs.lemmas.List.{length-take}
use Rattle.components.specs.Component.{said}
use Rattle.components.specs.Writing.{encoded}
use Rattle.components.proofs.Putting.{message_put}
use Rattle.components.proofs.message.Message.new.Goals as goal

pub returns-clause-composed : goal.returns-clause-composed
returns-clause-composed c =
    let s = said c.args.component.now in
    let told = c.in_ok-size.ensures.written in
    let n = c.in_ok-size.size in
    let start = c.min-start.result in
    let empty : List ℕ = replicate 23 0 in
    let lent : List ℕ = take (23 - start) (drop start empty) in
    let kept : length c.write.new.memory ≡ length lent = c.write.auto.memory in
    let room : n ≤ 23 - start = omega (arith, ap length told.2, length-append (encoded s) (drop n lent), length-take {A = ℕ}, length-drop {A = ℕ}) in
    let whole : start ≡ length c.args.head.now = omega arith in
    let put = message_put s c.args.head.now empty c.write.new.memory _ start (23 - start) n whole (omega arith) told.1 told.2 in
    (told.0, rw c.copy_from_slice.ensures.after put)
