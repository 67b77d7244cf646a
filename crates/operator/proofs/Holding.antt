-- What holds of the roster, the tables and the standings after each step; it is stronger than the company law.
use Rattle.std.proofs.Common.{◌≡◌, get_or, ℕ, pos, ◌+ℤ◌, ◌+◌, ◌≤◌, Bool, true, false, eqb, List, [], ◌∷◌, length, map, Some, None, Option}
use Rattle.std.specs.List.{filter}
use Rattle.std.specs.Option.{option_to_list}
use Rattle.line.specs.Meaning.{Leg, Standings}
use Rattle.tables.specs.Calls.{absent}
use Rattle.tables.specs.declared.call.Call.{Call}
use Rattle.tables.specs.declared.call.End.TheVariants as end
use Rattle.tables.specs.declared.call.State.{State}
use Rattle.tables.specs.declared.call.State.TheVariants.{Idle, Held, Clearing}
use Rattle.tables.specs.declared.conference.Conference.{Conference}
use Rattle.tables.specs.declared.conference.Mark.{Mark}
use Rattle.tables.specs.declared.conference.Mark.TheVariants.{Joined, Isolated}
use Rattle.tables.specs.declared.conference.Party.{Party}
use Rattle.tables.specs.Table.{Table}
use Rattle.controller.specs.Steps.{leads_to_leg}
use Rattle.operator.specs.Roster.{Entry, party, Roster, is_up, is_on, is_in, is_party, ups, members, others_in}
use Rattle.operator.specs.Company.{is_isolated}
use Rattle.operator.proofs.Lists.{In}

-- the mark that stands for isolated, or not
abbrev pub mark_of : Bool → Mark
mark_of true = Isolated
mark_of false = Joined

-- the parties that a leg is, by its entry
abbrev pub as_parties : ℕ → Entry → List Party
as_parties k (party c p joined isolated) = record { conference = c; id = p; leg = k; mark = mark_of isolated } ∷ []
as_parties k _ = []

-- a leg in a conference was told right: its sum and the others when it joined make the others now
pub record Right (k c joined : ℕ) (isolated : Bool) (legs : ℕ → Entry) (s : Standings) : Type 0 where
  pub company : (s k).heard +ℤ pos joined ≡ pos (others_in c k legs)
  pub few : joined ≤ 65
  pub isolation : is_isolated (s k).latest ≡ isolated

abbrev pub RightAt : ℕ → Entry → (ℕ → Entry) → Standings → Type 0
RightAt k (party c p joined isolated) legs s = Right k c joined isolated legs s
RightAt k _ legs s = Unit {0}

-- what a call leads to is linked; what is linked has a call that leads to it or is clearing
abbrev pub Led : State → Option ℕ → Type 0
Led (Idle (end.Conference id)) o = o ≡ Some id
Led (Held (end.Conference id)) o = o ≡ Some id
Led Clearing o = Unit {0}
Led _ o = o ≡ None

-- who is up is on a leg that there is
abbrev pub Ranged : (ℕ → Entry) → Type 0
Ranged legs = (k : ℕ) → is_up (legs k) ≡ true → Leg k

-- no two legs have one PartyId
abbrev pub OneLegEach : (ℕ → Entry) → Type 0
OneLegEach legs = (k l c p : ℕ) → is_party c p (legs k) ≡ true → is_party c p (legs l) ≡ true → k ≡ l

-- calls and roster agree on the legs of calls, and on links
pub record Calls (legs : ℕ → Entry) (links : ℕ → Option ℕ) (cs : List Call) : Type 0 where
  pub long : length cs ≡ 128
  pub led_to : (k ref : ℕ) → leads_to_leg k (get_or cs ref absent).state ≡ is_on ref (legs k)
  pub led : (ref : ℕ) → Led (get_or cs ref absent).state (links ref)

-- the parties of each leg are what the roster says
abbrev pub Parties : (ℕ → Entry) → List Party → Type 0
Parties legs ps = (k : ℕ) → filter (λ p. eqb k p.leg) ps ≡ as_parties k (legs k)

-- the conferences are those linked, each by one reference
abbrev pub Linked : (ℕ → Option ℕ) → List Conference → Type 0
Linked links cs = (ref : ℕ) → map (λ c. c.id) (filter (λ c. eqb c.link ref) cs) ≡ option_to_list (links ref)

abbrev pub Once : (ℕ → Option ℕ) → Type 0
Once links = (ref ref' c : ℕ) → links ref ≡ Some c → links ref' ≡ Some c → ref ≡ ref'

-- who is in a conference is in one that is linked
abbrev pub Housed : (ℕ → Entry) → (ℕ → Option ℕ) → Type 0
Housed legs links = (k c : ℕ) → is_in c (legs k) ≡ true → (ref : ℕ) × (links ref ≡ Some c)

-- no conference has more members than its size, which is 30 at most
pub record Sized (legs : ℕ → Entry) (c : Conference) : Type 0 where
  pub members : members c.id legs ≤ c.size
  pub most : c.size ≤ 30

pub record Holds (legs : ℕ → Entry) (links : ℕ → Option ℕ) (calls : List Call) (conferences : List Conference) (parties : List Party) (s : Standings) : Type 0 where
  pub ranged : Ranged legs
  pub one_leg_each : OneLegEach legs
  pub calls_fit : Calls legs links calls
  pub parties_fit : Parties legs parties
  pub linked : Linked links conferences
  pub once : Once links
  pub housed : Housed legs links
  pub sized : (c : Conference) → In c conferences → Sized legs c
  pub told : (k : ℕ) → RightAt k (legs k) legs s

-- of a roster and a table, with the number of those that are up
pub record Kept (r : Roster) (t : Table) (s : Standings) : Type 0 where
  pub holds : Holds r.legs r.links t.calls t.conferences t.parties s
  pub number : ups r.legs + r.gone ≡ r.answered
