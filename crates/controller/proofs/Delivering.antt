-- What is told on a line, one notice after another, is delivered.
use Rattle.std.proofs.Common.{All, arith, get_or, length, ◌≤◌, ◌+◌, ◌≡◌, ℕ, Bool, true, false, cond, eqb, List, [], ◌∷◌, ◌++◌, map, Ok, Err, Result, IsOk, refl, subst, sym, ◌∙◌, add_comm, add-one, zero-add}
use Rattle.std.specs.List.{filter}
use Rattle.std.proofs.Math.Seq.{drop-append_seam}
use Rattle.std.proofs.lemmas.List.{get_or-map, length-map}
use Rattle.std.proofs.lemmas.List.Elements.{All-drop, All-head, All-map}
use Rattle.std.proofs.lemmas.List.Sums.{sum_by-cons}
use Rattle.line.specs.declared.meaning.Refusal.{Refusal}
use Rattle.line.specs.declared.meaning.Refusal.TheVariants.{NoSuchLeg, NoRoom}
use Rattle.line.specs.declared.notice.Notice.{Notice}
use Rattle.line.specs.declared.standing.Standing.{Standing}
use Rattle.line.specs.Acts.{heard, notices_to}
use Rattle.line.specs.Order.{Telling}
use Rattle.line.specs.Meaning.{Leg, Standings, Tells}
use Rattle.line.specs.Notices.{after}
use Rattle.line.specs.Telling.{EachDone, TellsEach, times, repeated}
use Rattle.tables.specs.declared.conference.Party.{Party}
use Rattle.tables.specs.Table.{legs_of}
use Rattle.controller.specs.Steps.{each}
use Rattle.controller.specs.Telling.{Delivered, Tellable}

-- a notice for each of some parties comes to as many times as a leg is among them
heard_each : (k : ℕ) (n : Notice) (ps : List Party) (z : Standing) → heard (notices_to k (each n ps)) z ≡ repeated (times k (legs_of ps)) n z
heard_each k n [] z = refl
heard_each k n (p ∷ ps) z =
    rw (sum_by-cons (λ x. cond (eqb k x) 1 0) p.leg (legs_of ps)) (go (eqb k p.leg) (heard_each k n ps))
  where
    go : (b : Bool) → ((z : Standing) → heard (notices_to k (each n ps)) z ≡ repeated (times k (legs_of ps)) n z)
        → heard (map (λ t. t.1) (cond b ((p.leg, n) ∷ filter (λ t. eqb k t.0) (each n ps)) (filter (λ t. eqb k t.0) (each n ps)))) z ≡ repeated (cond b 1 0 + times k (legs_of ps)) n z
    go true rest = rw (add_comm 1 (times k (legs_of ps)), add-one) (rest (after n z))
    go false rest = rw zero-add (rest z)

-- what is told to each of some parties is delivered
pub delivered_all : {n : Notice} (ps : List Party) {s s' : Standings} {room room' : ℕ} → EachDone (legs_of ps) n s s' room room' → Delivered (each n ps) s s' room room'
delivered_all {n} ps {s} done = record {
  heard = λ k. done.heard k ∙ sym (heard_each k n ps (s k));
  falls = done.falls;
  by_told = rw length-map (rw length-map at done.by_length);
}

-- the hearers' legs are among those of all that is told
pub hearers_legs : (xs : List Telling) (n : Notice) (ps : List Party) → All (λ telling. Leg telling.0) (xs ++ each n ps) → All (λ p. Leg p.leg) ps
hearers_legs xs n ps legs i d lt =
    let behind : All (λ t. Leg t.0) (each n ps) = rw drop-append_seam at (All-drop (λ t. Leg t.0) (length xs) (xs ++ each n ps) legs) in
    subst (λ (t : Telling). Leg t.0) {x = get_or (each n ps) i (d.leg, n)} (get_or-map (λ p. (p.leg, n)) ps i d (d.leg, n) lt) (behind i (d.leg, n) (rw length-map lt))

-- a notice that can be told is not refused
pub told_one_ok : (l : ℕ) (n : Notice) (s s' : Standings) (room room' : ℕ) (r : Result Unit Refusal) → Tells l n s s' room room' r → Tellable ((l, n) ∷ []) room → IsOk r
told_one_ok l n s s' room room' (Ok _) told can = refl
told_one_ok l n s s' room room' (Err NoSuchLeg) told can = absurd (told.0 (All-head (λ t. Leg t.0) (l, n) [] can.legs))
told_one_ok l n s s' room room' (Err NoRoom) told can = let some = can.roomy in let none = told.1 in absurd (omega arith)

-- nor are those for some parties
pub told_all_ok : (n : Notice) (ps : List Party) (s s' : Standings) (room room' : ℕ) (r : Result Unit Refusal) → TellsEach (legs_of ps) n s s' room room' r → length ps ≤ room → All (λ p. Leg p.leg) ps → IsOk r
told_all_ok n ps s s' room room' (Ok _) told roomy legs = refl
told_all_ok n ps s s' room room' (Err NoSuchLeg) told roomy legs = absurd (told.0 (All-map Leg (λ p. p.leg) ps legs))
told_all_ok n ps s s' room room' (Err NoRoom) told roomy legs = let few = rw length-map at told.1 in absurd (omega arith)
