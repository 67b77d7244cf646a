-- What the octets of an answer say: whether the request was accepted, and the ids that it was given.
use Rattle.std.proofs.Common.{◌≡◌, ℕ, ℤ, pos, ◌+◌, ◌-◌, ◌≤◌, ◌<◌, false, List, [], ◌∷◌, ◌++◌, length, get_or, Some, Err, refl, ap, ◌∙◌, lit<, arith, length-append}
use Rattle.std.proofs.lemmas.List.{get_or-append_right}
use Rattle.ber.specs.Integer.{integer_octets}
use Rattle.ber.specs.Value.{tagged}
use Rattle.components.specs.Component.{result}
use Rattle.components.specs.Writing.{encoded}
use Rattle.facility.specs.Requests.{number_octets}
use Rattle.tables.specs.Table.{Table}
use Rattle.controller.specs.declared.carrier.Carrier.{Carrier}
use Rattle.controller.specs.declared.carrier.Carrier.TheVariants.{Facility}
use Rattle.controller.specs.declared.verdict.Wrong.{Wrong}
use Rattle.controller.specs.Replies.{cause, head, reply, value}
use Rattle.operator.specs.Roster.{from_last, accepts}

-- octets counted from the last are those of the part behind
last_of : (n : ℕ) (xs ys : List ℕ) → n < length ys → from_last n (xs ++ ys) ≡ from_last n ys
last_of n xs ys lt =
    let low : length xs ≤ length (xs ++ ys) - (n + 1) = rw length-append (omega arith) in
    let place : length (xs ++ ys) - (n + 1) - length xs ≡ length ys - (n + 1) = rw length-append (omega arith) in
    get_or-append_right xs ys (length xs) (length (xs ++ ys) - (n + 1)) 0 refl low ∙ ap (λ i. get_or ys i 0) place

-- what goes wrong on FACILITY is answered on FACILITY
wrong_head : (ref : ℕ) (t : Table) (why : Wrong) → head (Facility ref) t (Err why) ≡ 0x62 ∷ []
wrong_head ref t why = grind arith

-- neither an error nor a reject is taken for acceptance
pub not_accepted : (carrier : Carrier) (id : ℤ) (t : Table) (why : Wrong) → accepts (head carrier t (Err why) ++ encoded (reply id (Err why))) ≡ false
not_accepted carrier id t why = grind (arith, wrong_head)

-- the ids at the end of a result
pub setup_id : (id : ℤ) (c : ℕ) → from_last 0 (0x07 ∷ encoded (result id (Some (pos 40, value (tagged 0x30 (number_octets c)))))) ≡ c
setup_id id c = last_of 0 (0x07 ∷ 0x1c ∷ _ ∷ 0x91 ∷ 0xa2 ∷ _ ∷ integer_octets id) (tagged 0x30 (integer_octets (pos 40) ++ tagged 0x30 (number_octets c))) (lit< tt)

-- the ConferenceId of a begin on a call
pub begun_conference : (id : ℤ) (c : ℕ) → from_last 3 (0x62 ∷ encoded (result id (Some (pos 40, value (tagged 0x30 (number_octets c ++ number_octets 0)))))) ≡ c
begun_conference id c = last_of 3 (0x62 ∷ 0x1c ∷ _ ∷ 0x91 ∷ 0xa2 ∷ _ ∷ integer_octets id) (tagged 0x30 (integer_octets (pos 40) ++ tagged 0x30 (number_octets c ++ number_octets 0))) (lit< tt)

-- and the PartyId
pub begun_party : (id : ℤ) (c : ℕ) → from_last 0 (0x62 ∷ encoded (result id (Some (pos 40, value (tagged 0x30 (number_octets c ++ number_octets 0)))))) ≡ 0
begun_party id c = last_of 0 (0x62 ∷ 0x1c ∷ _ ∷ 0x91 ∷ 0xa2 ∷ _ ∷ integer_octets id) (tagged 0x30 (integer_octets (pos 40) ++ tagged 0x30 (number_octets c ++ number_octets 0))) (lit< tt)

-- the PartyId of an add
pub added_party : (id : ℤ) (p : ℕ) → from_last 0 (0x45 ∷ cause ++ encoded (result id (Some (pos 41, value (number_octets p))))) ≡ p
added_party id p = last_of 0 (0x45 ∷ cause ++ (0x1c ∷ _ ∷ 0x91 ∷ 0xa2 ∷ _ ∷ integer_octets id)) (tagged 0x30 (integer_octets (pos 41) ++ number_octets p)) (lit< tt)
