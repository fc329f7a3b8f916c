-- How the links of a node, with queues or without, go by the rows of `Table`, over any book of their segments.
use Rattle.std.specs.Prelude.{ℕ, Bool, true, false, ◌&&◌, if◌then◌else◌, Option, Some, None, is_some, ok_or, List, [], ◌∷◌, fold, Result, Ok, Err}
use Rattle.dna_packet.specs.declared.ack_word.AckWord.{AckWord}
use Rattle.dna_packet.specs.Nsp.{SegmentValue}
use Rattle.dna_station.specs.declared.link_refusal.LinkRefusal.{LinkRefusal}
use Rattle.dna_station.specs.declared.link_refusal.LinkRefusal.TheVariants.{NoLink}
use Rattle.dna_links.specs.declared.port.Phase.{Phase}
use Rattle.dna_links.specs.declared.port.Phase.TheVariants.{Calling, Called}
use Rattle.dna_links.specs.declared.port.LinkTest.{LinkTest}
use Rattle.dna_links.specs.declared.port.LinkTest.TheVariants.{HasAddress}
use Rattle.dna_links.specs.declared.queue.Queues.{Queues}
use Rattle.dna_links.specs.declared.queue.Queues.TheVariants.{Without, With}
use Rattle.dna_links.specs.LookUps.{is_at, refused_in}
use Rattle.dna_links.specs.SegmentBook.{SegmentBook, Sending, Late, wider}
use Rattle.dna_links.specs.Links.{LinkOf, LinksOf, LinkTruth, check, with_link, with_seen, begun, changed, in_phase, with_segments}
use Rattle.dna_links.specs.Queues.{fresh, in_use, with_in_use, may_send, with_queue, goes_to, ends_by_message, drops, freed, booted, shows, settled}
use Rattle.dna_links.specs.Table.{Ask, Finds, FindsEither, FindsNone, FindsInUse, KnowsInUse, InPhase, InTurn, OrElse, ForThisLink, OfThisPair}
use Rattle.dna_links.specs.Table.{Delivers}
use Rattle.dna_links.specs.Table.{SendsSegment, SendsAcks, Effect, OpenHere, GiveAddress, Connect, GoTo, End, Drop, EndAll, Say, Settle, Keep, HandIn}
use Rattle.dna_links.specs.Table.{TakeSegment, TakeAcks, Row, Asks, user_row}
use Rattle.dna_links.specs.User.{LinkEventValue}

-- both are known, and the same
abbrev pub are_same : Option ℕ → Option ℕ → Bool
are_same None known = false
are_same (Some number) known = is_at known number

-- goes on with what is not refused
abbrev pub on_ok : {X Y : Type 0} → Result X LinkRefusal → (X → Result Y LinkRefusal) → Result Y LinkRefusal
on_ok (Ok x) next = next x
on_ok (Err refusal) next = Err refusal

module _ {D K : Type 0} (queues : Queues) (book : SegmentBook D K) where
  -- a link that begins
  abbrev pub blank : LinkOf D
  blank = record {
    port = record { phase = Called; opened = false; own = None; far = None };
    partner = None;
    segsize = 0;
    segments = book.empty;
    queue = fresh;
  }

  -- what an effect of a message with this truth makes of the link
  abbrev pub does : LinkTruth K → LinkOf D → Effect → LinkOf D
  does truth link OpenHere = record link { port = record link.port { phase = Calling; opened = true } }
  does truth link (GiveAddress own) = record link { port = record link.port { own = Some own } }
  does truth link (Connect far segsize) = record link { port = record link.port { far = Some far }; partner = truth.tag.link; segsize = segsize }
  does truth link (GoTo phase) = goes_to book queues phase link
  does truth link End = ends_by_message book queues link
  does truth link Drop = drops book queues link
  does truth link EndAll = link
  does truth link (Say said) = shows book said link
  does truth link (Settle own) = link
  does truth link Keep = link
  does truth link (HandIn message) = with_segments (book.hands_in message link.segments) link
  does truth link (TakeSegment segment) = with_segments (book.takes_segment segment truth.known link.segments) link
  does truth link (TakeAcks acks) = with_segments (book.takes_acks acks truth.known link.segments) link

-- what is not remembered without queues
abbrev pub kept : Queues → List Effect → List Effect
kept Without [] = []
kept Without (Say said ∷ effects) = kept Without effects
kept Without (Settle own ∷ effects) = kept Without effects
kept Without (effect ∷ effects) = effect ∷ kept Without effects
kept With effects = effects

module _ {D K R : Type 0} (queues : Queues) (book : SegmentBook D K) (rule : Bool → Bool) (truth : LinkTruth K) (s : LinksOf D)
    (answer : List Effect → Option ℕ → LinkOf D → K → R) (effects : List Effect) where
  -- `rule` is on partners, `truth` that of the message
  abbrev pub otherwise : Option LinkRefusal → Result R LinkRefusal
  otherwise None = Ok (answer [] None (blank queues book) truth.known)
  otherwise (Some refusal) = Err refusal

  -- no link passes by its port: with queues one may by its port in use
  abbrev pub waits : Queues → LinkTest → LinkRefusal → Result R LinkRefusal → Result R LinkRefusal
  waits Without test refusal next = Err refusal
  waits With test refusal next = with_seen (in_use With) test s (Err refusal) (λ n l. next)

  -- what is sent of a segment's numbers, or of acknowledgements
  abbrev pub late : LinkOf D → Late D K → LinkOf D
  late link sent = with_queue (record link.queue { gap = sent.gap }) (with_segments sent.sent.segments link)

  abbrev pub widened : LinkOf D → Sending D K → LinkOf D
  widened link sent =
      with_queue (record link.queue { gap = wider link.queue.gap (book.went_on link.segments sent.segments) }) (with_segments sent.segments link)

  abbrev pub sends_segment : Queues → SegmentValue → LinkOf D → (LinkOf D → K → Result R LinkRefusal) → Result R LinkRefusal
  sends_segment Without segment link next =
      on_ok (book.sends_segment link.segsize segment link.segments) (λ sent. next (with_segments sent.segments link) sent.known)
  sends_segment With segment link next =
      on_ok (book.sends_late link.queue.gap link.segsize segment link.segments) (λ sent. next (late link sent) sent.sent.known)

  abbrev pub sends_acks : Queues → List AckWord → LinkOf D → (LinkOf D → K → Result R LinkRefusal) → Result R LinkRefusal
  sends_acks Without acks link next = on_ok (book.sends_acks acks link.segments) (λ sent. next (with_segments sent.segments link) sent.known)
  sends_acks With acks link next = on_ok (book.sends_acks acks link.segments) (λ sent. next (widened link sent) sent.known)

  -- What is asked in turn; then the effects, and the answer of a link, if there is one, and what is known of the message's numbers
  abbrev pub asked : List Ask → Option ℕ → LinkOf D → K → Result R LinkRefusal
  asked [] number link known = Ok (answer effects number (fold (does queues book truth) link effects) known)
  asked (Finds test refusal ∷ asks) number link known =
      with_link test s (otherwise refusal) (λ n l. asked asks (Some n) l (book.sends_other l.segments))
  asked (FindsEither first second refusal ∷ asks) number link known =
      with_link first s (with_link second s (otherwise refusal) (λ n l. asked asks (Some n) l (book.sends_other l.segments)))
      (λ n l. asked asks (Some n) l (book.sends_other l.segments))
  asked (FindsNone test refusal ∷ asks) number link known = with_link test s (asked asks number link known) (λ n l. otherwise refusal)
  asked (FindsInUse test refusal ∷ asks) number link known =
      with_in_use queues test s (Err refusal) (λ n l. asked asks (Some n) l (book.sends_other l.segments))
  asked (KnowsInUse test refusal ∷ asks) number link known =
      with_link test s (waits queues test refusal (asked asks number link known)) (λ n l. asked asks (Some n) l (book.sends_other l.segments))
  asked (InPhase phases refusal ∷ asks) number link known =
      check (phases (in_use queues link).phase) (refused_in (in_use queues link).phase refusal) (asked asks number link known)
  asked (InTurn phase refusal ∷ asks) number link known = check (may_send queues phase link) refusal (asked asks number link known)
  asked (OrElse so others ∷ asks) number link known =
      if so then asked asks number link known else Ok (answer (kept queues others) None (blank queues book) truth.known)
  asked (ForThisLink refusal ∷ asks) number link known =
      check (rule (is_some truth.tag.link && are_same number truth.tag.partner)) refusal (asked asks number link known)
  asked (OfThisPair refusal ∷ asks) number link known =
      check (rule (are_same link.partner truth.tag.link && are_same number truth.tag.partner)) refusal (asked asks number link known)
  asked (Delivers message refusal ∷ asks) number link known =
      on_ok (ok_or (book.delivers message link.segments) refusal) (λ d. asked asks number (with_segments d link) known)
  asked (SendsSegment segment ∷ asks) number link known = sends_segment queues segment link (asked asks number)
  asked (SendsAcks acks ∷ asks) number link known = sends_acks queues acks link (asked asks number)

abbrev pub by_row : {D K R : Type 0} → Queues → SegmentBook D K → (Bool → Bool) → LinkTruth K → LinksOf D →
    (List Effect → Option ℕ → LinkOf D → K → R) →
    Row → Result R LinkRefusal
by_row queues book rule truth s answer (Asks asks effects) =
    asked queues book rule truth s answer (kept queues effects) asks None (blank queues book) truth.known

module _ {D K : Type 0} (queues : Queues) (book : SegmentBook D K) where
  -- the other links: an address that is given is forgotten
  abbrev pub others : List Effect → LinksOf D → LinksOf D
  others (GiveAddress own ∷ effects) s = freed book queues own s
  others effects s = s

  -- all links, with the one with this number, or one that begins, as the effects left it
  abbrev pub after : LinksOf D → List Effect → Option ℕ → LinkOf D → K → LinksOf D
  after s [] number link known = s
  after s (Settle own ∷ effects) number link known =
      with_link (HasAddress own) s s (λ n l. changed n (settled book l.queue.waits l) s)
  after s (EndAll ∷ effects) number link known = booted book queues s
  after s (effect ∷ effects) None link known = begun link (others (effect ∷ effects) s)
  after s (effect ∷ effects) (Some number) link known = changed number link (others (effect ∷ effects) s)

  abbrev pub of_none : LinkTruth K
  of_none = record { tag = record { link = None; partner = None }; known = book.sends_other book.empty }

  abbrev pub user_step : LinksOf D → LinkEventValue → Result (LinksOf D) LinkRefusal
  user_step s event = by_row queues book (λ test. test) of_none s (after s) (user_row event)
