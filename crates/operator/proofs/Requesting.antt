-- Roster, table and standings go on fitting after a request is settled.
use Rattle.std.proofs.Common.{◌≡◌, ℕ, ℤ, pos, ◌<◌, Bool, true, false, cond, eqb, List, ◌∷◌, ◌++◌, Some, None, Ok, Err, Option, refl, subst, ap, ◌∙◌, sym, arith}
use Rattle.std.specs.List.{find}
use Rattle.std.proofs.lemmas.Bool.{eq-eqb, eqb-true, true≢false, not-false}
use Rattle.line.specs.Meaning.{Standings}
use Rattle.line.specs.declared.notice.Notice.{Notice}
use Rattle.line.specs.declared.notice.Notice.TheVariants.{Isolated, Reattached, OtherIsolated, OtherReattached}
use Rattle.line.specs.declared.standing.Standing.{Standing}
use Rattle.line.specs.Notices.{after}
use Rattle.tables.proofs.Circling.{conference_free, party_free}
use Rattle.controller.proofs.Granted.{led_to_none}
use Rattle.controller.proofs.Passing.{Grants, begin_by_setup, begin_on_call, add, split, drop, isolate, reattach, granted}
use Rattle.controller.proofs.Room.{own_leads}
use Rattle.operator.specs.Company.{is_isolated}
use Rattle.tables.specs.Edits.{with_marked}
use Rattle.components.specs.Component.{result}
use Rattle.components.specs.Writing.{encoded}
use Rattle.ber.specs.Value.{tagged}
use Rattle.facility.specs.declared.request.Request.{Request}
use Rattle.facility.specs.declared.request.RequestInvoke.{RequestInvoke}
use Rattle.facility.specs.Requests.{number_octets}
use Rattle.tables.specs.declared.call.State.{State}
use Rattle.tables.specs.declared.call.State.TheVariants.{Absent}
use Rattle.tables.specs.declared.conference.Conference.{Conference}
use Rattle.tables.specs.declared.conference.Party.{Party}
use Rattle.tables.specs.declared.level.Level.{Level}
use Rattle.tables.specs.Calls.{leads_to_conference, own_leg}
use Rattle.tables.specs.Edits.{new_conference}
use Rattle.tables.specs.Table.{Table, call_at, next_conference, next_party, parties_of, party_with}
use Rattle.controller.specs.declared.carrier.Carrier.{Carrier}
use Rattle.controller.specs.declared.deed.Deed.{Deed}
use Rattle.controller.specs.Deeds.{deed_effect}
use Rattle.controller.specs.Granting.{nothing, led_to, begun_by_setup, begun_on_call, added, split as split_of, dropped, remarked, same_mark}
use Rattle.controller.specs.Judging.{Verdict, verdict, in_use, is_absent, control_of, controlled, reference_of, asked_size}
use Rattle.controller.specs.Replies.{settled, settled_as, head, reply, value, facility, disconnect}
use Rattle.controller.specs.Steps.{Effect, each, others}
use Rattle.controller.specs.Telling.{Heard}
use Rattle.operator.specs.declared.steps.Step.TheVariants as step
use Rattle.operator.specs.Roster.{down, on, party, is_on, is_party, Roster, written, counted, changed, joins, isolated_as, linked, of_linked, from_last, accepts}
use Rattle.operator.specs.Turns.{replied}
use Rattle.operator.proofs.Attending.{kept_added, kept_begun_on, kept_begun, kept_split, kept_marked, kept_marked_so, kept_dropped}
use Rattle.operator.proofs.Conferring.{linked_there}
use Rattle.operator.proofs.Holding.{Kept, Led, Linked, mark_of}
use Rattle.operator.proofs.Keeping.{leads_on, kept_same, counted_none}
use Rattle.operator.proofs.Lists.{in_found, in_filtered, none_found}
use Rattle.operator.proofs.Looking.{known, Known, parties_counted}
use Rattle.operator.proofs.Reading.{not_accepted, setup_id, begun_conference, begun_party, added_party}

-- what is settled so goes on fitting
abbrev pub SettledSo : Carrier → RequestInvoke → Roster → Table → Standings → Standings → List ℕ → Effect → Type 0
SettledSo carrier asked r t s s' body e = Heard e.told s s' → Kept (written (step.Settled carrier asked) (replied body e.gone) r) e.table s'

-- no reference is the link of an id that no conference has
unlinked : (links : ℕ → Option ℕ) (cs : List Conference) (id : ℕ) → Linked links cs → find (λ c. eqb c.id id) cs ≡ None → (q : ℕ) → links q ≡ Some id → ⊥
unlinked links cs id linked none q is =
    let c = linked_there links cs q id linked is in
    true≢false (sym (eq-eqb c.0.id id c.3) ∙ none_found (λ c. eqb c.id id) c.0 cs none c.1)

-- what a call leads to
absent_is : (st : State) → is_absent st ≡ true → st ≡ Absent
absent_is st is = grind arith

-- a call with a leg of its own is no link
own_unlinked : (st : State) (l : ℕ) (o : Option ℕ) → own_leg st ≡ Some l → Led st o → o ≡ None
own_unlinked st l o is led = grind arith

-- a call that leads to a conference is its link
link_led : (st : State) (m : ℕ) (o : Option ℕ) → leads_to_conference st ≡ Some m → Led st o → o ≡ Some m
link_led st m o is led = grind arith

-- and it is the link of that conference
led_to_led : (id : ℕ) (st : State) → Led (led_to id st) (Some id)
led_to_led id st = grind arith

-- a party found is one of the roster
found_party : (r : Roster) (t : Table) (s : Standings) (id p : ℕ) (q : Party) → Kept r t s → party_with t id p ≡ Some q → (q.id ≡ p) × (k : Known r.legs q) × (r.legs q.leg ≡ party id q.id k.joined k.isolated)
found_party r t s id p q kept is =
    let found = in_found (λ q. eqb q.id p) q (parties_of t id) is in
    let was = in_filtered (λ q. eqb q.conference id) q t.parties found.0 in
    let k = known r.legs t.parties q kept.holds.parties_fit was.0 in
    (eqb-true q.id p found.1, k, k.entry ∙ ap (λ c. party c q.id k.joined k.isolated) (eqb-true q.conference id was.1))

-- a conference controlled by a call is the one linked
control_linked : (r : Roster) (t : Table) (s : Standings) (ref : ℕ) (d : Conference) → Kept r t s → control_of t ref ≡ Some d → r.links ref ≡ Some d.id
control_linked r t s ref d kept is = go (leads_to_conference (call_at t ref).state) refl is
  where
    go : (o : Option ℕ) → leads_to_conference (call_at t ref).state ≡ o → controlled t o ≡ Some d → r.links ref ≡ Some d.id
    go None leads found = cc
    go (Some m) leads found =
        link_led (call_at t ref).state m (r.links ref) leads (kept.holds.calls_fit.led ref) ∙ ap (λ x. Some x) (sym (eqb-true d.id m (in_found (λ c. eqb c.id m) d t.conferences found).1))

-- a mark is the one asked for or the other
marks_same : (b b' : Bool) → same_mark (mark_of b) (mark_of b') ≡ true → b ≡ b'
marks_same b b' is = grind arith

-- isolate and reattach
remarked_at : (r : Roster) (t : Table) (s s' : Standings) (ref p : ℕ) (b' : Bool) (own other : Notice) (d : Conference) (q : Party) → control_of t ref ≡ Some d → party_with t d.id p ≡ Some q
    → ((z : Standing) → (after own z).heard ≡ z.heard) → ((z : Standing) → is_isolated (after own z).latest ≡ b') → ((z : Standing) → after other z ≡ z) → Kept r t s
    → Heard (remarked (mark_of b') own other d.id q t).told s s'
    → Kept (counted 0 (remarked (mark_of b') own other d.id q t).gone (changed (of_linked (r.links ref) p) (λ k e. isolated_as b' e) r)) (remarked (mark_of b') own other d.id q t).table s'
remarked_at r t s s' ref p b' own other d q control is sum latest unmoved kept =
    let known = found_party r t s d.id p q kept is in
    let linked_is = control_linked r t s ref d kept control in
    subst (λ o. Heard (remarked (mark_of b') own other d.id q t).told s s' → Kept (counted 0 (remarked (mark_of b') own other d.id q t).gone (changed (of_linked o p) (λ k e. isolated_as b' e) r)) (remarked (mark_of b') own other d.id q t).table s') (sym linked_is)
    (subst (λ x. Heard (remarked (mark_of b') own other d.id q t).told s s' → Kept (counted 0 (remarked (mark_of b') own other d.id q t).gone (changed (is_party d.id x) (λ k e. isolated_as b' e) r)) (remarked (mark_of b') own other d.id q t).table s') known.0
    (go (same_mark q.mark (mark_of b')) refl known.1 known.2))
  where
    to : Bool → Effect
    to c = cond c (nothing t) (record { table = with_marked d.id q.id (mark_of b') t; told = (q.leg, own) ∷ each other (others t d.id q.id); gone = 0 })

    go : (c : Bool) → same_mark q.mark (mark_of b') ≡ c → (k : Known r.legs q) → r.legs q.leg ≡ party d.id q.id k.joined k.isolated → Heard (to c).told s s' → Kept (counted 0 (to c).gone (changed (is_party d.id q.id) (λ k e. isolated_as b' e) r)) (to c).table s'
    go true same k was heard =
        let one : k.isolated ≡ b' = marks_same k.isolated b' (subst (λ m. same_mark m (mark_of b') ≡ true) k.mark same) in
        kept_marked_so q.leg d.id q.id k.joined b' (was ∙ ap (λ b. party d.id q.id k.joined b) one) (kept_same s' heard kept)
    go false same k was heard = kept_marked s' q.leg d.id q.id k.joined k.isolated b' own other was sum latest unmoved heard kept

-- every request granted goes on fitting
granted_fits : (r : Roster) (t : Table) (s s' : Standings) (level : Level) (carrier : Carrier) (id : ℤ) (q : Request) (d : Deed) → reference_of carrier < 128 → in_use carrier t ≡ false → Kept r t s → Grants level t carrier q d
    → SettledSo carrier (record { id = id; request = q }) r t s s' (head carrier t (Ok d) ++ encoded (reply id (Ok d))) (deed_effect t d)
granted_fits r t s s' level _ id _ _ lt free kept (begin_by_setup ref speech size begins) = λ heard.
    let c = next_conference t in
    let absent_now = absent_is (call_at t ref).state (not-false _ free) in
    let few = begins.room in
    let fresh = unlinked r.links t.conferences c kept.holds.linked (conference_free t (omega arith)) in
    subst (λ x. Kept (counted 0 0 (linked ref (Some x) r)) (begun_by_setup c (asked_size level size) ref t).table s') (sym (setup_id id c))
    (kept_begun s' (new_conference c (asked_size level size) ref) _ lt (rw absent_now at (kept.holds.calls_fit.led ref)) fresh begins.most (λ k. rw absent_now) refl heard kept)
granted_fits r t s s' level _ id _ _ lt free kept (begin_on_call ref size l begins some owns) = λ heard.
    let c = next_conference t in
    let n = asked_size level size in
    let st = (call_at t ref).state in
    let few = begins.room in
    let fresh = unlinked r.links t.conferences c kept.holds.linked (conference_free t (omega arith)) in
    let was = leads_on r.legs r.links t.calls l ref kept.holds.calls_fit (own_leads st l owns) in
    subst (λ x. Kept (counted 0 0 (linked ref (Some x) (changed (is_on ref) (joins x (from_last 0 (facility ++ encoded (result id (Some (pos 40, value (tagged 0x30 (number_octets c ++ number_octets 0))))))) r.legs) r))) (begun_on_call c n ref l t).table s') (sym (begun_conference id c))
    (subst (λ x. Kept (counted 0 0 (linked ref (Some c) (changed (is_on ref) (joins c x r.legs) r))) (begun_on_call c n ref l t).table s') (sym (begun_party id c))
    (kept_begun_on s' l (new_conference c n ref) _ lt was (own_unlinked st l (r.links ref) owns (kept.holds.calls_fit.led ref)) fresh some begins.most (λ k. led_to_none k c st) (led_to_led c st) heard kept))
granted_fits r t s s' level _ id _ _ lt free kept (add ref to l d there some owns) = λ heard.
    let p = next_party t d in
    let at = in_found (λ c. eqb c.id to) d t.conferences there.found in
    let count = parties_counted r.legs t.parties d.id kept.holds.ranged kept.holds.parties_fit in
    let most = (kept.holds.sized d at.0).most in
    let fresh = party_free t d (omega arith) in
    let was = leads_on r.legs r.links t.calls l ref kept.holds.calls_fit (own_leads (call_at t ref).state l owns) in
    subst (λ x. Kept (counted 0 0 (changed (is_on ref) (joins x (from_last 0 (disconnect ++ encoded (result id (Some (pos 41, value (number_octets p)))))) r.legs) r)) (added d.id p ref l t).table s') there.named
    (subst (λ x. Kept (counted 0 0 (changed (is_on ref) (joins d.id x r.legs) r)) (added d.id p ref l t).table s') (sym (added_party id p))
    (kept_added s' l ref p d _ lt was at.0 (rw count at some) fresh refl heard kept))
granted_fits r t s s' level _ id _ _ lt free kept (split ref speech from p d q there is) = λ heard.
    let absent_now = absent_is (call_at t ref).state (not-false _ free) in
    let known = found_party r t s d.id p q kept is in
    subst (λ x. Kept (counted 0 0 (changed (is_party x p) (λ k e. on ref) r)) (split_of d.id q ref t).table s') there.named
    (subst (λ x. Kept (counted 0 0 (changed (is_party d.id x) (λ k e. on ref) r)) (split_of d.id q ref t).table s') known.0
    (kept_split s' q.leg ref d.id q.id known.1.joined known.1.isolated _ lt known.2 (rw absent_now at (kept.holds.calls_fit.led ref)) (λ k. rw absent_now) refl heard kept))
granted_fits r t s s' level _ id _ _ lt free kept (drop ref p d q control is) = λ heard.
    let known = found_party r t s d.id p q kept is in
    subst (λ o. Kept (counted 0 1 (changed (of_linked o p) (λ k e. down) r)) (dropped d.id q t).table s') (sym (control_linked r t s ref d kept control))
    (subst (λ x. Kept (counted 0 1 (changed (is_party d.id x) (λ k e. down) r)) (dropped d.id q t).table s') known.0
    (kept_dropped s' q.leg d.id q.id known.1.joined known.1.isolated known.2 heard kept))
granted_fits r t s s' level _ id _ _ lt free kept (isolate ref p d q control is) =
    remarked_at r t s s' ref p true Isolated OtherIsolated d q control is (λ z. refl) (λ z. refl) (λ z. refl) kept
granted_fits r t s s' level _ id _ _ lt free kept (reattach ref p d q control is) =
    remarked_at r t s s' ref p false Reattached OtherReattached d q control is (λ z. refl) (λ z. refl) (λ z. refl) kept

-- what is refused does nothing and writes nothing
unaccepted : (r : Roster) (t : Table) (s s' : Standings) (carrier : Carrier) (asked : RequestInvoke) (body : List ℕ) → accepts body ≡ false → Kept r t s → SettledSo carrier asked r t s s' body (nothing t)
unaccepted r t s s' carrier asked body is kept = λ heard. rw is (counted_none (kept_same s' heard kept))

-- whatever is settled, the company is kept
pub settled_kept : (r : Roster) (t : Table) (s s' : Standings) (level : Level) (room : ℕ) (carrier : Carrier) (asked : RequestInvoke) → reference_of carrier < 128 → Kept r t s
    → SettledSo carrier asked r t s s' (settled level room carrier asked t).body (settled level room carrier asked t).effect
settled_kept r t s s' level room carrier asked lt kept = go (verdict level t room carrier asked.request) refl
  where
    go : (v : Verdict) → verdict level t room carrier asked.request ≡ v → SettledSo carrier asked r t s s' (settled_as carrier asked.id t v).body (settled_as carrier asked.id t v).effect
    go (Err why) is = unaccepted r t s s' carrier asked (head carrier t (Err why) ++ encoded (reply asked.id (Err why))) (not_accepted carrier asked.id t why) kept
    go (Ok d) is =
        let known = granted level t room carrier asked.request d is in
        granted_fits r t s s' level carrier asked.id asked.request d lt known.free kept known.comes
