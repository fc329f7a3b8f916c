-- Cutting the links of a node to what it keeps of them commutes with what the user does.
use Rattle.std.proofs.Common.{◌≡◌, ℕ, Bool, true, false, Option, Some, None, List, [], ◌∷◌, Ok, Err, map, refl, sym, ap, ap₂, ◌∙◌, option_map}
use Rattle.std.specs.Prelude.{slice_get}
use Rattle.std.proofs.lemmas.Bool.{and_parts}
use Rattle.dna_station.specs.declared.link_refusal.LinkRefusal.{LinkRefusal}
use Rattle.dna_station.specs.declared.link_refusal.LinkRefusal.TheVariants.{NoLink, LinkState, AddressInUse}
use Rattle.dna_links.specs.Queues.{ended, forgotten, freed, booted_link}
use Rattle.dna_links.specs.declared.queue.Queues.{Queues}
use Rattle.dna_links.specs.declared.queue.Queues.TheVariants.{Without, With}
use Rattle.dna_links.specs.declared.port.Phase.{Phase}
use Rattle.dna_links.specs.declared.port.Phase.TheVariants.{Confirming, Disconnecting, Ended}
use Rattle.dna_links.specs.declared.port.LinkTest.TheVariants.{HasAddress, LiveAt, CalledBy}
use Rattle.dna_links.specs.LookUps.{is_live, is_calling, is_called, is_connected, is_at, takes_messages, passes, refused_in}
use Rattle.dna_links.specs.Links.{LinkOf, LinksOf, check, begun, changed, in_phase, with_segments}
use Rattle.dna_links.specs.User.{LinkEventValue, Open, Accept, Reject, In, Up, Close, Abort, Boot}
use Rattle.dna_links.specs.inner.Forms.{opened, answered, gives, answers, delivered}
use Rattle.dna_links.specs.TrueSegments.{TrueSegments, hands_in, delivers, true_segments}
use Rattle.dna_links.specs.WireSegments.{WireSegments, wire_segments}
use Rattle.dna_links.specs.WireSegments as wire
use Rattle.dna_links.specs.TrueLinks.{Links, links_user}
use Rattle.dna_links.specs.WireLinks.{wire_links_user}
use Rattle.dna_links.specs.CutSegments.{cut}
use Rattle.dna_links.specs.CutLinks.{cut_as, cut_link, cut_links, cut_result}
use Rattle.dna_links.proofs.Cut.SegmentsArriving.{delivers_same}
use Rattle.dna_links.proofs.Cut.Ended.{ended_delivers}
use Rattle.dna_links.proofs.Cut.LookUps.{NoneFor, with_link_same, changed_same, begun_same}

-- ---- one link

-- a test that an ended link does not pass is passed by a live one
pub live_if : (test : Phase → Bool) → test Ended ≡ false → (phase : Phase) → test phase ≡ true → is_live phase ≡ true
live_if test none Ended e = sym none ∙ e
live_if test none phase e = refl

module _ (l : LinkOf TrueSegments) where
  module _ (live : is_live l.port.phase ≡ true) where
    -- a live link's segments are cut whole
    pub live_segments : (cut_link Without l).segments ≡ cut l.segments
    live_segments = ap (λ (b : Bool). cut_as b l.port.own l.segments) live

    pub segments_changed : (f : TrueSegments) (w : WireSegments) → cut f ≡ w →
        cut_link Without (with_segments f l) ≡ with_segments w (cut_link Without l)
    segments_changed f w same = ap (λ (v : WireSegments). with_segments v (cut_link Without l)) (ap (λ (b : Bool). cut_as b l.port.own f) live ∙ same)

    pub phase_changed : (phase : Phase) → is_live phase ≡ true → cut_link Without (in_phase phase l) ≡ in_phase phase (cut_link Without l)
    phase_changed phase to =
        ap (λ (w : WireSegments). with_segments w (in_phase phase (cut_link Without l)))
        (ap (λ (b : Bool). cut_as b l.port.own l.segments) to ∙ sym live_segments)

    answered_same : (phase : Phase) (own : ℕ) → is_live phase ≡ true →
        cut_link Without (answered true_segments phase own l) ≡ answered wire_segments phase own
        (cut_link Without l)
    answered_same phase own to =
        ap (λ (w : WireSegments). with_segments w (answered wire_segments phase own (cut_link Without l)))
        (ap (λ (b : Bool). cut_as b (Some own) l.segments) to ∙ sym live_segments)

    -- a call that is given up has an own address
    given_up : (address : ℕ) → is_at l.port.own address ≡ true → cut_link Without (ended true_segments l) ≡ ended wire_segments (cut_link Without l)
    given_up address at =
        ap (λ (w : WireSegments). with_segments w (in_phase Ended (cut_link Without l))) (go l.port.own at ∙ ap wire.ends (sym live_segments))
      where
        go : (own : Option ℕ) → is_at own address ≡ true → cut_as false own l.segments ≡ wire.ends (cut l.segments)
        go (Some number) e = refl
        go None e = absurd cc

  -- an ended link that loses its address keeps nothing
  forgotten_same : is_live l.port.phase ≡ false →
      cut_link Without (forgotten true_segments Without l) ≡ forgotten wire_segments Without (cut_link Without l)
  forgotten_same dead =
      ap (λ (w : WireSegments). with_segments w (forgotten wire_segments Without (cut_link Without l)))
      (ap (λ (b : Bool). cut_as b None l.segments) dead)

-- a boot leaves nothing of any link
booted_one : (queues : Queues) (l : LinkOf TrueSegments) → cut_link queues (booted_link true_segments queues l) ≡
    booted_link wire_segments queues (cut_link queues l)
booted_one Without l = refl
booted_one With l = refl

pub booted_same : (queues : Queues) (links : List (LinkOf TrueSegments)) → map (cut_link queues) (map (booted_link true_segments queues) links) ≡
    map (booted_link wire_segments queues) (map (cut_link queues) links)
booted_same queues [] = refl
booted_same queues (l ∷ links) = ap₂ (λ (w : LinkOf WireSegments) (all : List (LinkOf WireSegments)). w ∷ all) (booted_one queues l)
    (booted_same queues links)

-- the messages that are delivered, of a live link and of one that has ended
pub delivers_at : (b : Bool) (own : Option ℕ) (address : ℕ) (f : TrueSegments) (message : List ℕ) → is_at own address ≡ true
    → option_map (cut_as b own) (delivers message f) ≡ wire.delivers message (cut_as b own f)
delivers_at true own address f message at = delivers_same f message
delivers_at false (Some number) address f message at = ended_delivers f message
delivers_at false None address f message at = absurd cc

-- ---- the table

check_same : (b : Bool) (reason : LinkRefusal) (s : Links) → cut_result Without (check b reason (Ok s)) ≡ check b reason (Ok (cut_links Without s))
check_same true reason s = refl
check_same false reason s = refl

delivered_same : (n : ℕ) (l : LinkOf TrueSegments) (s : Links) (o : Option TrueSegments)
    → cut_result Without (delivered true_segments n l s o) ≡ delivered wire_segments n (cut_link Without l) (cut_links Without s)
    (option_map (cut_as (is_live l.port.phase) l.port.own) o)
delivered_same n l s None = refl
delivered_same n l s (Some f) = ap Ok (changed_same Without n (with_segments f l) s)

module _ (s : Links) where
  -- a link that is changed where a check is passed
  changes : (n : ℕ) (l after : LinkOf TrueSegments) (after' : LinkOf WireSegments) (b : Bool) (reason : LinkRefusal) →
      cut_link Without after ≡ after' →
      cut_result Without (check b reason (Ok (changed n after s))) ≡ check b reason (Ok (changed n after' (cut_links Without s)))
  changes n l after after' b reason same =
      check_same b reason (changed n after s)
      ∙ ap (λ (all : LinksOf WireSegments). check b reason (Ok all))
      (changed_same Without n after s ∙ ap (λ (w : LinkOf WireSegments). changed n w (cut_links Without s)) same)

  -- the address that is given is no live link's
  freed_same : (own : ℕ) → NoneFor (LiveAt own) s →
      cut_links Without (freed true_segments Without own s) ≡ freed wire_segments Without own (cut_links Without s)
  freed_same own none =
      with_link_same Without (cut_links Without) (HasAddress own) s s (cut_links Without s) (λ n l. changed n (forgotten true_segments Without l) s)
      (λ n l. changed n (forgotten wire_segments Without l) (cut_links Without s))
      (λ nobody. refl)
      (λ n l there here. changed_same Without n (forgotten true_segments Without l) s
      ∙ ap (λ (w : LinkOf WireSegments). changed n w (cut_links Without s))
      (forgotten_same l (dead n l there here)))
    where
      dead : (n : ℕ) (l : LinkOf TrueSegments) → slice_get s.links n ≡ Some l → is_at l.port.own own ≡ true → is_live l.port.phase ≡ false
      dead n l there here = by_phase (is_live l.port.phase) refl
        where
          by_phase : (b : Bool) → is_live l.port.phase ≡ b → is_live l.port.phase ≡ false
          by_phase false e = e
          by_phase true e = let n = none n l there in absurd cc

  gives_same : (own : ℕ) (next : Links) (next' : LinksOf WireSegments) → (NoneFor (LiveAt own) s → cut_links Without next ≡ next') →
      cut_result Without (gives true_segments own s next) ≡ gives wire_segments own (cut_links Without s) next'
  gives_same own next next' same =
      with_link_same Without (cut_result Without) (LiveAt own) s (Ok next) (Ok next') (λ n l. Err AddressInUse) (λ n l. Err AddressInUse)
      (λ none. ap Ok (same none))
      (λ n l there here. refl)

  answers_same : (phase : Phase) (far own : ℕ) → is_live phase ≡ true →
      cut_result Without (answers true_segments phase far own s) ≡ answers wire_segments phase far
      own (cut_links Without s)
  answers_same phase far own to =
      with_link_same Without (cut_result Without) (CalledBy far) s (Err NoLink) (Err NoLink)
      (λ n l. gives true_segments own s (changed n (answered true_segments phase own l) (freed true_segments Without own s)))
      (λ n l. gives wire_segments own (cut_links Without s)
      (changed n (answered wire_segments phase own l) (freed wire_segments Without own (cut_links Without s))))
      (λ none. refl) along
    where
      along : (n : ℕ) (l : LinkOf TrueSegments) → slice_get s.links n ≡ Some l → passes (CalledBy far) l.port ≡ true
          → cut_result Without (gives true_segments own s (changed n (answered true_segments phase own l) (freed true_segments Without own s)))
          ≡ gives wire_segments own (cut_links Without s)
          (changed n (answered wire_segments phase own (cut_link Without l)) (freed wire_segments Without own (cut_links Without s)))
      along n l there here =
          let called = (and_parts (is_called l.port.phase) (is_at l.port.far far) here).0 in
          gives_same own (changed n (answered true_segments phase own l) (freed true_segments Without own s))
          (changed n (answered wire_segments phase own (cut_link Without l)) (freed wire_segments Without own (cut_links Without s)))
          (λ none. changed_same Without n (answered true_segments phase own l) (freed true_segments Without own s)
          ∙ ap₂ (λ (w : LinkOf WireSegments) (all : LinksOf WireSegments). changed n w all)
          (answered_same l (live_if is_called refl l.port.phase called) phase own to) (freed_same own none))

  pub user_same : (event : LinkEventValue) → cut_result Without (links_user Without s event) ≡ wire_links_user Without (cut_links Without s) event
  user_same (Open own) =
      gives_same own (begun (opened true_segments own) (freed true_segments Without own s))
      (begun (opened wire_segments own) (freed wire_segments Without own (cut_links Without s)))
      (λ none. begun_same Without (opened true_segments own) (freed true_segments Without own s)
      ∙ ap (begun (opened wire_segments own)) (freed_same own none))
  user_same (Accept far own) = answers_same Confirming far own refl
  user_same (Reject far own) = answers_same Disconnecting far own refl
  user_same (In own message) =
      with_link_same Without (cut_result Without) (LiveAt own) s (Err NoLink) (Err NoLink)
      (λ n l. check (takes_messages l.port.phase) (refused_in l.port.phase LinkState)
      (Ok (changed n (with_segments (hands_in message l.segments) l) s)))
      (λ n l. check (takes_messages l.port.phase) (refused_in l.port.phase LinkState)
      (Ok (changed n (with_segments (wire.hands_in message l.segments) l) (cut_links Without s))))
      (λ none. refl) (λ n l there here.
      let live = (and_parts (is_live l.port.phase) (is_at l.port.own own) here).0 in
      changes n l (with_segments (hands_in message l.segments) l)
      (with_segments (wire.hands_in message (cut_link Without l).segments) (cut_link Without l))
      (takes_messages l.port.phase) _
      (segments_changed l live (hands_in message l.segments) (wire.hands_in message (cut_link Without l).segments)
      (ap (wire.hands_in message) (sym (live_segments l live)))))
  user_same (Up own message) =
      with_link_same Without (cut_result Without) (HasAddress own) s (Err NoLink) (Err NoLink)
      (λ n l. delivered true_segments n l s (delivers message l.segments))
      (λ n l. delivered wire_segments n l (cut_links Without s) (wire.delivers message l.segments))
      (λ none. refl) (λ n l there here.
      delivered_same n l s (delivers message l.segments)
      ∙ ap (delivered wire_segments n (cut_link Without l) (cut_links Without s))
      (delivers_at (is_live l.port.phase) l.port.own own l.segments message here))
  user_same (Close own) =
      with_link_same Without (cut_result Without) (LiveAt own) s (Err NoLink) (Err NoLink)
      (λ n l. check (is_connected l.port.phase) (refused_in l.port.phase LinkState) (Ok (changed n (in_phase Disconnecting l) s)))
      (λ n l. check (is_connected l.port.phase) (refused_in l.port.phase LinkState) (Ok (changed n (in_phase Disconnecting l) (cut_links Without s))))
      (λ none. refl) (λ n l there here.
      let live = (and_parts (is_live l.port.phase) (is_at l.port.own own) here).0 in
      changes n l (in_phase Disconnecting l) (in_phase Disconnecting (cut_link Without l)) (is_connected l.port.phase) _
      (phase_changed l live Disconnecting refl))
  user_same (Abort own) =
      with_link_same Without (cut_result Without) (LiveAt own) s (Err NoLink) (Err NoLink)
      (λ n l. check (is_calling l.port.phase) (refused_in l.port.phase LinkState) (Ok (changed n (ended true_segments l) s)))
      (λ n l. check (is_calling l.port.phase) (refused_in l.port.phase LinkState) (Ok (changed n (ended wire_segments l) (cut_links Without s))))
      (λ none. refl) (λ n l there here.
      let p = and_parts (is_live l.port.phase) (is_at l.port.own own) here in
      changes n l (ended true_segments l) (ended wire_segments (cut_link Without l)) (is_calling l.port.phase) _ (given_up l p.0 own p.1))
  user_same Boot = ap (λ (links : List (LinkOf WireSegments)). Ok (record (cut_links Without s) { links = links })) (booted_same Without s.links)
