-- What is handed in by records that have lines can stand in a line, and so can the own addresses of links; and what is whole of a link was handed
-- in at its partner.
use Rattle.dna_play.proofs.Prelude.{◌≡◌, ℕ, zero, suc, ◌<◌, ◌≤◌, Bool, true, false, ◌==◌, cond, ◌⊎◌, inl, inr, Option, Some, None, List, [], ◌∷◌}
use Rattle.dna_play.proofs.Prelude.{◌++◌, length, drop, refl, sym, ◌∙◌, subst, append-nil, append_assoc, slice_get, slice_index, AllByRecursion}
use Rattle.dna_play.proofs.Prelude.{drop-nil, flat_map-append, same_Some, MAX_MESSAGE, Record, User, All-behind, IsLink, IsRecord, BeginsWith}
use Rattle.dna_play.proofs.Prelude.{Piece, LinkOf, LinkEventValue, Open, In, TrueSegments, given_address, handed_in, behind, IsRead, IsCut}
use Rattle.dna_play.proofs.Prelude.{HeldFrom, link_event_in, link_events, complete, given_again, HoldsAt, IsPassed, delivered_is, passed_delivered}
use Rattle.dna_play.proofs.Prelude.{passed_begins}
use Rattle.capture_record.specs.declared.event.Event.TheVariants as events
use Rattle.dna_links.specs.User.{Accept, Reject}
use Rattle.dna_links.specs.Captures.{gives_address, message_in}
use Rattle.dna_play.proofs.EachElement.{first_all, more_all, there}
use Rattle.dna_play.proofs.Played.PlayLines.{line_tested}
use Rattle.dna_play.proofs.Ends.UpsFollow.{AllLined, delivering, delivers_next}

-- ---- messages and addresses of records

-- a message that a line may hold
pub record IsMessage (message : List ℕ) : Type 0 where
  pub bytes : (i : ℕ) → slice_index message i < 256
  pub short : length message ≤ MAX_MESSAGE

abbrev pub AreMessages : List (List ℕ) → Type 0
AreMessages messages = AllByRecursion IsMessage messages

-- what an event of the links hands in and gives has a line
abbrev pub EventLined : LinkEventValue → Type 0
EventLined (Open own) = IsLink own
EventLined (Accept far own) = IsLink own
EventLined (Reject far own) = IsLink own
EventLined (In own message) = IsMessage message
EventLined event = Unit {0}

abbrev pub EventsLined : List LinkEventValue → Type 0
EventsLined list = AllByRecursion EventLined list

record_lined : (r : Record) → IsRecord r → EventsLined (link_events (r ∷ []))
record_lined (User (events.Open own)) h = (h.spelling.numbers, tt)
record_lined (User (events.Accept far own)) h = (h.spelling.numbers.1, tt)
record_lined (User (events.Reject far own)) h = (h.spelling.numbers.1, tt)
record_lined (User (events.In own message)) h = (record { bytes = h.spelling.bytes; short = h.short }, tt)
record_lined (User (events.Up own message)) h = (tt, tt)
record_lined (User (events.Close own)) h = (tt, tt)
record_lined (User (events.Abort own)) h = (tt, tt)
record_lined (User events.Boot) h = (tt, tt)
record_lined r h = tt

pub events_lined : (records : List Record) → AllByRecursion IsRecord records → EventsLined (link_events records)
events_lined [] h = tt
events_lined (r ∷ later) h =
    subst EventsLined (sym (flat_map-append link_event_in (r ∷ []) later))
    (more_all EventLined (link_events (r ∷ [])) (link_events later) (record_lined r h.0) (events_lined later h.1))

-- ---- off these events

behind_lined : (place : ℕ) (list : List LinkEventValue) → EventsLined list → EventsLined (behind place list)
behind_lined place [] h = tt
behind_lined zero (event ∷ list) h = h.1
behind_lined (suc place) (event ∷ list) h = behind_lined place list h.1

message_lined : (own : ℕ) (event : LinkEventValue) → EventLined event → AreMessages (message_in own event)
message_lined own (In link message) h = go (link == own)
  where
    go : (b : Bool) → AreMessages (cond b (message ∷ []) [])
    go true = (h, tt)
    go false = tt
message_lined own event h = tt

handed_lined : (own : ℕ) (list : List LinkEventValue) → EventsLined list → AreMessages (handed_in own list)
handed_lined own [] h = tt
handed_lined own (event ∷ list) h = go (handed_lined own list h.1) (gives_address own event)
  where
    go : AreMessages (handed_in own list) → (b : Bool) → AreMessages (cond b [] (message_in own event ++ handed_in own list))
    go later true = tt
    go later false = more_all IsMessage (message_in own event) (handed_in own list) (message_lined own event h.0) later

-- all that was handed in at a link can stand in a line
pub link_handed_lined : (list : List LinkEventValue) (link : LinkOf TrueSegments) (place : Option ℕ) → IsRead list link place → EventsLined list →
    AreMessages link.segments.handed
link_handed_lined list link None r h = subst AreMessages (sym r.handed) tt
link_handed_lined list link (Some place) r h = subst AreMessages (sym r.handed) (handed_lined r.own (behind place list) (behind_lined place list h))

given_lined : (event : LinkEventValue) (own : ℕ) → given_address event ≡ Some own → EventLined event → IsLink own
given_lined (Open a) own e h = subst IsLink (same_Some a own e) h
given_lined (Accept far a) own e h = subst IsLink (same_Some a own e) h
given_lined (Reject far a) own e h = subst IsLink (same_Some a own e) h
given_lined event own e h = absurd cc

-- and so can its own address
pub address_lined : (list : List LinkEventValue) (own : ℕ) (held : Option ℕ) (place : Option ℕ) → HoldsAt list held place → held ≡ Some own →
    EventsLined list → IsLink own
address_lined list own held None h e lined = let none : held ≡ None = h in absurd cc
address_lined list own held (Some place) h e lined = go h.holds
  where
    of_event : IsLink h.address
    of_event = given_lined h.event h.address h.gives (there EventLined list place h.event lined h.there)

    go : ((held ≡ Some h.address) × (given_again h.address (behind place list) ≡ false)) ⊎ (held ≡ None) → IsLink own
    go (inl is) = subst IsLink (same_Some h.address own (sym is.0 ∙ e)) of_event
    go (inr none) = absurd cc

-- ---- what is whole

abbrev IsHeldIn : TrueSegments → TrueSegments → Type 0
IsHeldIn f g = (n : ℕ) (p : Piece) → slice_get f.received n ≡ Some (Some p) → slice_get g.given n ≡ Some p

-- what was delivered, with all that is whole, is a beginning of what was handed in
whole_begins : (messages : List (List ℕ)) (f g : TrueSegments) → IsPassed f → IsCut g → IsHeldIn f g →
    complete [] (drop f.passed f.received) ≡ messages →
    BeginsWith g.handed (f.delivered ++ messages)
whole_begins [] f g p cut held e = subst (BeginsWith g.handed) (sym (append-nil f.delivered)) (passed_begins f g p cut held)
whole_begins (message ∷ later) f g p cut held e =
    let d = delivers_next f message later e in
    let next = delivering message d.w f in
    subst (BeginsWith g.handed) (append_assoc f.delivered (message ∷ []) later)
    (whole_begins later next g (passed_delivered message f next p (delivered_is message f next d.does)) cut held d.left)

-- what is whole of a link can stand in a line, where all that was handed in at the other side can
pub whole_lined : (f : TrueSegments) (partner : Option ℕ) (others : List (LinkOf TrueSegments)) → IsPassed f → HeldFrom partner f.received others →
    ((i : ℕ) (l : LinkOf TrueSegments) → slice_get others i ≡ Some l → IsCut l.segments × AreMessages l.segments.handed) →
    AreMessages (complete [] (drop f.passed f.received))
whole_lined f None others p held all = let none : f.received ≡ [] = held in rw (none, drop-nil) tt
whole_lined f (Some partner) others p held all =
    let theirs = all partner held.0 held.1 in
    let messages = complete [] (drop f.passed f.received) in
    let b = whole_begins messages f (held.0).segments p theirs.0 held.2 refl in
    All-behind IsMessage f.delivered messages (first_all IsMessage (f.delivered ++ messages) b.rest (subst AreMessages b.whole theirs.1))

-- ---- the deliveries

pub all_lined : (address : ℕ) (messages : List (List ℕ)) → IsLink address → AreMessages messages → AllLined address messages
all_lined address [] link h = tt
all_lined address (message ∷ later) link h = (
  line_tested (User (events.Up address message))
      (record { spelling = record { numbers = link; bytes = h.0.bytes }; short = h.0.short }),
  all_lined address later link h.1,
)
