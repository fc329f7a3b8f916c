-- The links of one end alone are those of a node of the pair without their partners: all that may happen to them goes along, with queues or
-- without, but for what only the rule on partners refuses. Each word of the table goes along, and so do its rows.
use Rattle.std.proofs.Common.{◌≡◌, ℕ, Bool, true, false, cond, Option, Some, None, List, [], ◌∷◌, Result, Ok, Err, refl, sym, ap, ◌∙◌, subst}
use Rattle.std.specs.Prelude.{ok_or, fold, is_some, ◌&&◌, ◌==◌}
use Rattle.dna_packet.specs.Nsp.{NspValue, DataSegment, LinkService, DataAck, OtherDataAck, ConnectAck, NoOperation, ConnectInitiate}
use Rattle.dna_packet.specs.Nsp.{SegmentValue, ConnectConfirm, DisconnectInitiate, DisconnectConfirm}
use Rattle.dna_packet.specs.declared.ack_word.AckWord.{AckWord}
use Rattle.dna_station.specs.declared.link_refusal.LinkRefusal.{LinkRefusal}
use Rattle.dna_station.specs.declared.link_refusal.LinkRefusal.TheVariants.{WrongNode, CrossedLink}
use Rattle.dna_station.specs.declared.refusal.StepRefusal.TheVariants.{Links as OfLinks}
use Rattle.dna_links.specs.declared.queue.Queues.{Queues}
use Rattle.dna_links.specs.declared.queue.Queues.TheVariants.{Without, With}
use Rattle.dna_links.specs.declared.port.LinkTest.{LinkTest}
use Rattle.dna_links.specs.declared.port.Phase.{Phase}
use Rattle.dna_links.specs.declared.port.Port.{Port}
use Rattle.dna_links.specs.SegmentBook.{SegmentBook}
use Rattle.dna_links.specs.LookUps.{refused_in}
use Rattle.dna_links.specs.Links.{LinkOf, LinksOf, Carried, LinkTruth, check, with_segments}
use Rattle.dna_links.specs.Queues.{in_use, may_send}
use Rattle.dna_links.specs.Table.{Ask, Finds, FindsEither, FindsNone, FindsInUse, KnowsInUse, InPhase, InTurn, OrElse, ForThisLink, OfThisPair}
use Rattle.dna_links.specs.Table.{Delivers, SendsSegment, SendsAcks, Effect, Row, Asks, user_row, sending_row, arrival_row}
use Rattle.dna_links.specs.User.{LinkEventValue, Open, Accept, Reject, In, Up, Close, Abort, Boot}
use Rattle.dna_links.specs.LinkBook.{are_same, on_ok, blank, does, kept, otherwise, waits, late, widened, sends_segment, sends_acks, asked, by_row}
use Rattle.dna_links.specs.LinkBook.{after, of_none, user_step}
use Rattle.dna_links.specs.Sending.{Sent, sent_as, message_sent, sent_step}
use Rattle.dna_links.specs.Arriving.{PartnerRule, of_partner, of_anyone, arrived_step}
use Rattle.dna_node.specs.Alone.{is_seen_alone}
use Rattle.dna_node.proofs.Alone.LinkEffects.{truth_alone, forget_link, forget_links, forget_result, forget_one, forget_sent, with_both, seen_both}
use Rattle.dna_node.proofs.Alone.LinkEffects.{in_use_both, use_along, may_along, all_along, after_along}

-- ---- what is asked

-- What becomes of the links of the pair, and of those alone, where a refusal is seen
module _ {R : Type 0} (forget : R → R) (is_seen : LinkRefusal → Type 0) where
  abbrev pub GoAlong : Result R LinkRefusal → Result R LinkRefusal → Type 0
  GoAlong (Ok x) y = y ≡ Ok (forget x)
  GoAlong (Err refusal) y = is_seen refusal → y ≡ Err refusal

  checked_along : (b c : Bool) (refusal : LinkRefusal) (x y : Result R LinkRefusal) → c ≡ b → GoAlong x y →
      GoAlong (check b refusal x) (check c refusal y)
  checked_along true true refusal x y same along = along
  checked_along false false refusal x y same along = λ seen. refl
  checked_along b c refusal x y same along = absurd cc

  in_phase_along : (port here : Port) → here ≡ port → (phases : Phase → Bool) (refusal : LinkRefusal) (x y : Result R LinkRefusal) → GoAlong x y →
      GoAlong (check (phases port.phase) (refused_in port.phase refusal) x) (check (phases here.phase) (refused_in here.phase refusal) y)
  in_phase_along port here same phases refusal x y along =
      subst (λ (p : Port). GoAlong (check (phases port.phase) (refused_in port.phase refusal) x)
      (check (phases p.phase) (refused_in p.phase refusal) y)) (sym same)
      (checked_along (phases port.phase) (phases port.phase) (refused_in port.phase refusal) x y refl along)

  on_ok_along : {X : Type 0} (r : Result X LinkRefusal) (next next' : X → Result R LinkRefusal) → ((x : X) → GoAlong (next x) (next' x)) →
      GoAlong (on_ok r next) (on_ok r next')
  on_ok_along (Ok x) next next' along = along x
  on_ok_along (Err refusal) next next' along = λ seen. refl

-- what asks for partners refuses for one of these reasons
abbrev pub RefusesSo : (LinkRefusal → Type 0) → List Ask → Type 0
RefusesSo so [] = Unit {0}
RefusesSo so (ForThisLink refusal ∷ asks) = so refusal × RefusesSo so asks
RefusesSo so (OfThisPair refusal ∷ asks) = so refusal × RefusesSo so asks
RefusesSo so (ask ∷ asks) = RefusesSo so asks

abbrev pub RowRefusesSo : (LinkRefusal → Type 0) → Row → Type 0
RowRefusesSo so (Asks asks effects) = RefusesSo so asks

-- The rule on partners of the pair may refuse for these reasons, where that of the one alone doesn't: of nothing is known there whose it is
module _ {D K R : Type 0} (queues : Queues) (book : SegmentBook D K) (rule rule' : PartnerRule) (forget : R → R) (is_seen so : LinkRefusal → Type 0)
    (crosses : (b : Bool) (refusal : LinkRefusal) (x y : Result R LinkRefusal) → so refusal → GoAlong forget is_seen x y →
    GoAlong forget is_seen (check (rule b) refusal x) (check (rule' false) refusal y)) (truth : LinkTruth K) (s : LinksOf D)
    (answer answer' : List Effect → Option ℕ → LinkOf D → K → R)
    (answers : (effects : List Effect) (number : Option ℕ) (l : LinkOf D) (known : K) →
    answer' effects number (forget_link l) known ≡ forget (answer effects number l known)) where
  abbrev alone : LinkTruth K
  alone = truth_alone truth

  module _ (effects : List Effect) where
    abbrev of_pair : List Ask → Option ℕ → LinkOf D → K → Result R LinkRefusal
    of_pair = asked queues book rule truth s answer effects

    abbrev of_one : List Ask → Option ℕ → LinkOf D → K → Result R LinkRefusal
    of_one = asked queues book rule' alone (forget_links s) answer' effects

    abbrev Goes : Result R LinkRefusal → Result R LinkRefusal → Type 0
    Goes = GoAlong forget is_seen

    abbrev nothing : Option LinkRefusal → Result R LinkRefusal
    nothing refusal = otherwise queues book rule truth s answer effects refusal

    abbrev nothing_alone : Option LinkRefusal → Result R LinkRefusal
    nothing_alone refusal = otherwise queues book rule' alone (forget_links s) answer' effects refusal

    nothing_along : (refusal : Option LinkRefusal) → Goes (nothing refusal) (nothing_alone refusal)
    nothing_along None = ap Ok (answers [] None (blank queues book) truth.known)
    nothing_along (Some refusal) = λ seen. refl

    waits_along : (queues' : Queues) (test : LinkTest) (refusal : LinkRefusal) (x y : Result R LinkRefusal) → Goes x y →
        Goes (waits queues book rule truth s answer effects queues' test refusal x)
        (waits queues book rule' alone (forget_links s) answer' effects queues' test refusal y)
    waits_along Without test refusal x y along = λ seen. refl
    waits_along With test refusal x y along =
        seen_both Goes s (Err refusal) (Err refusal) (λ n l. x) (λ n l. y) (λ seen. refl) (λ n l. along) test

    segment_along : (queues' : Queues) (segment : SegmentValue) (l : LinkOf D) (next next' : LinkOf D → K → Result R LinkRefusal) →
        ((x : LinkOf D) (known : K) → Goes (next x known) (next' (forget_link x) known)) →
        Goes (sends_segment queues book rule truth s answer effects queues' segment l next)
        (sends_segment queues book rule' alone (forget_links s) answer' effects queues' segment (forget_link l) next')
    segment_along Without segment l next next' along =
        on_ok_along forget is_seen (book.sends_segment l.segsize segment l.segments) _ _ (λ sent. along (with_segments sent.segments l) sent.known)
    segment_along With segment l next next' along =
        on_ok_along forget is_seen (book.sends_late l.queue.gap l.segsize segment l.segments) _ _
        (λ sent. along (late queues book rule truth s answer effects l sent) sent.sent.known)

    acks_along : (queues' : Queues) (acks : List AckWord) (l : LinkOf D) (next next' : LinkOf D → K → Result R LinkRefusal) →
        ((x : LinkOf D) (known : K) → Goes (next x known) (next' (forget_link x) known)) →
        Goes (sends_acks queues book rule truth s answer effects queues' acks l next)
        (sends_acks queues book rule' alone (forget_links s) answer' effects queues' acks (forget_link l) next')
    acks_along Without acks l next next' along =
        on_ok_along forget is_seen (book.sends_acks acks l.segments) _ _ (λ sent. along (with_segments sent.segments l) sent.known)
    acks_along With acks l next next' along =
        on_ok_along forget is_seen (book.sends_acks acks l.segments) _ _
        (λ sent. along (widened queues book rule truth s answer effects l sent) sent.known)

    or_else_along : (b : Bool) (effects' : List Effect) (x y : Result R LinkRefusal) → Goes x y →
        Goes (cond b x (Ok (answer (kept queues effects') None (blank queues book) truth.known)))
        (cond b y (Ok (answer' (kept queues effects') None (blank queues book) truth.known)))
    or_else_along true effects' x y along = along
    or_else_along false effects' x y along = ap Ok (answers (kept queues effects') None (blank queues book) truth.known)

    asked_along : (asks : List Ask) → RefusesSo so asks → (number : Option ℕ) (l : LinkOf D) (known : K) →
        Goes (of_pair asks number l known) (of_one asks number (forget_link l) known)
    asked_along [] may number l known =
        ap Ok (ap (λ (x : LinkOf D). answer' effects number x known) (all_along queues book truth effects l)
        ∙ answers effects number (fold (does queues book truth) l effects) known)
    asked_along (Finds test refusal ∷ asks) may number l known =
        with_both Goes s (nothing refusal) (nothing_alone refusal) _ _ (nothing_along refusal)
        (λ n x. asked_along asks may (Some n) x (book.sends_other x.segments)) test
    asked_along (FindsEither first second refusal ∷ asks) may number l known =
        with_both Goes s _ _ _ _
        (with_both Goes s (nothing refusal) (nothing_alone refusal) _ _ (nothing_along refusal)
        (λ n x. asked_along asks may (Some n) x (book.sends_other x.segments)) second)
        (λ n x. asked_along asks may (Some n) x (book.sends_other x.segments)) first
    asked_along (FindsNone test refusal ∷ asks) may number l known =
        with_both Goes s _ _ (λ n x. nothing refusal) (λ n x. nothing_alone refusal) (asked_along asks may number l known)
        (λ n x. nothing_along refusal) test
    asked_along (FindsInUse test refusal ∷ asks) may number l known =
        in_use_both queues Goes test s (Err refusal) (Err refusal) _ _ (λ seen. refl)
        (λ n x. asked_along asks may (Some n) x (book.sends_other x.segments))
    asked_along (KnowsInUse test refusal ∷ asks) may number l known =
        with_both Goes s _ _ _ _ (waits_along queues test refusal _ _ (asked_along asks may number l known))
        (λ n x. asked_along asks may (Some n) x (book.sends_other x.segments)) test
    asked_along (InPhase phases refusal ∷ asks) may number l known =
        in_phase_along forget is_seen (in_use queues l) (in_use queues (forget_link l)) (use_along queues l) phases refusal _ _
        (asked_along asks may number l known)
    asked_along (InTurn phase refusal ∷ asks) may number l known =
        checked_along forget is_seen (may_send queues phase l) (may_send queues phase (forget_link l)) refusal _ _
        (may_along queues phase l) (asked_along asks may number l known)
    asked_along (OrElse b effects' ∷ asks) may number l known = or_else_along b effects' _ _ (asked_along asks may number l known)
    asked_along (ForThisLink refusal ∷ asks) may number l known =
        crosses (is_some truth.tag.link && are_same number truth.tag.partner) refusal _ _ may.0 (asked_along asks may.1 number l known)
    asked_along (OfThisPair refusal ∷ asks) may number l known =
        crosses (are_same l.partner truth.tag.link && are_same number truth.tag.partner) refusal _ _ may.0 (asked_along asks may.1 number l known)
    asked_along (Delivers message refusal ∷ asks) may number l known =
        on_ok_along forget is_seen (ok_or (book.delivers message l.segments) refusal) _ _
        (λ d. asked_along asks may number (with_segments d l) known)
    asked_along (SendsSegment segment ∷ asks) may number l known =
        segment_along queues segment l (of_pair asks number) (of_one asks number) (λ x known. asked_along asks may number x known)
    asked_along (SendsAcks acks ∷ asks) may number l known =
        acks_along queues acks l (of_pair asks number) (of_one asks number) (λ x known. asked_along asks may number x known)

  row_along : (row : Row) → RowRefusesSo so row →
      GoAlong forget is_seen (by_row queues book rule truth s answer row) (by_row queues book rule' alone (forget_links s) answer' row)
  row_along (Asks asks effects) may = asked_along (kept queues effects) asks may None (blank queues book) truth.known

-- ---- what bytes tell: no row of it asks for partners, and all refusals are seen

abbrev Never : LinkRefusal → Type 0
Never refusal = ⊥

abbrev Always : LinkRefusal → Type 0
Always refusal = Unit {0}

user_asks : (event : LinkEventValue) → RowRefusesSo Never (user_row event)
user_asks (Open own) = tt
user_asks (Accept far own) = tt
user_asks (Reject far own) = tt
user_asks (In own message) = tt
user_asks (Up own message) = tt
user_asks (Close own) = tt
user_asks (Abort own) = tt
user_asks Boot = tt

sending_asks : (m : NspValue) → RowRefusesSo Never (sending_row m)
sending_asks (DataSegment segment) = tt
sending_asks (DataAck dst src acks) = tt
sending_asks m = tt

module _ {D K : Type 0} (queues : Queues) (book : SegmentBook D K) (s : LinksOf D) where
  all_seen : (x y : Result (LinksOf D) LinkRefusal) → GoAlong forget_links Always x y → forget_result x ≡ y
  all_seen (Ok x) y along = sym along
  all_seen (Err refusal) y along = sym (along tt)

  pub user_along : (event : LinkEventValue) → forget_result (user_step queues book s event) ≡ user_step queues book (forget_links s) event
  user_along event =
      all_seen _ _ (row_along queues book (λ b. b) (λ b. b) forget_links Always Never (λ b refusal x y never along. absurd never)
      (of_none queues book) s (after queues book s) (after queues book (forget_links s)) (after_along queues book s) (user_row event)
      (user_asks event))

  sent_seen : (x y : Result (Sent D K) LinkRefusal) → GoAlong forget_one Always x y → forget_sent x ≡ y
  sent_seen (Ok x) y along = sym along
  sent_seen (Err refusal) y along = sym (along tt)

  sent_as_along : (effects : List Effect) (number : Option ℕ) (l : LinkOf D) (known : K) →
      sent_as queues book (forget_links s) effects number (forget_link l) known ≡ forget_one (sent_as queues book s effects number l known)
  sent_as_along effects number l known =
      ap (λ (links : LinksOf D). record (sent_as queues book (forget_links s) effects number (forget_link l) known) { links = links })
      (after_along queues book s effects number l known)

  message_along : (m : NspValue) → GoAlong forget_one Always (message_sent queues book s m) (message_sent queues book (forget_links s) m)
  message_along m =
      row_along queues book (λ b. b) (λ b. b) forget_one Always Never (λ b refusal x y never along. absurd never) (of_none queues book) s
      (sent_as queues book s) (sent_as queues book (forget_links s)) sent_as_along (sending_row m) (sending_asks m)

  pub sent_along : (packet : Carried) → forget_sent (sent_step queues book s packet) ≡ sent_step queues book (forget_links s) packet
  sent_along packet =
      sent_seen _ _ (checked_along forget_one Always (packet.src == s.node && packet.dst == s.peer) (packet.src == s.node && packet.dst == s.peer)
      WrongNode _ _ refl (message_along packet.message))

-- ---- what comes: the rule on partners refuses with 25, which is not seen alone

abbrev IsCrossed : LinkRefusal → Type 0
IsCrossed refusal = refusal ≡ CrossedLink

abbrev IsSeen : LinkRefusal → Type 0
IsSeen refusal = is_seen_alone (OfLinks refusal) ≡ true

arrival_asks : (m : NspValue) → RowRefusesSo IsCrossed (arrival_row m)
arrival_asks (ConnectInitiate retransmitted src services info segsize user_data) = tt
arrival_asks (ConnectConfirm dst src services info segsize user_data) = (refl, tt)
arrival_asks (DisconnectInitiate dst src reason user_data) = tt
arrival_asks (DisconnectConfirm dst src reason) = tt
arrival_asks (DataSegment segment) = (refl, tt)
arrival_asks (DataAck dst src acks) = (refl, tt)
arrival_asks (LinkService interrupt dst src rest) = (refl, tt)
arrival_asks (OtherDataAck dst src rest) = (refl, tt)
arrival_asks (ConnectAck dst) = tt
arrival_asks (NoOperation rest) = tt

module _ {D : Type 0} where
  abbrev pub Along : Result (LinksOf D) LinkRefusal → Result (LinksOf D) LinkRefusal → Type 0
  Along = GoAlong forget_links IsSeen

module _ {D K : Type 0} (queues : Queues) (book : SegmentBook D K) (s : LinksOf D) (truth : LinkTruth K) where
  crosses : (b : Bool) (refusal : LinkRefusal) (x y : Result (LinksOf D) LinkRefusal) → IsCrossed refusal → Along x y →
      Along (check (of_partner b) refusal x) (check (of_anyone false) refusal y)
  crosses true refusal x y is along = along
  crosses false refusal x y is along = λ seen. absurd (not_seen refusal is seen)
    where
      not_seen : (r : LinkRefusal) → IsCrossed r → IsSeen r → ⊥
      not_seen r is seen =
          let e : is_seen_alone (OfLinks CrossedLink) ≡ true = ap (λ (x : LinkRefusal). is_seen_alone (OfLinks x)) (sym is) ∙ seen in absurd cc

  pub arrived_along : (packet : Carried) →
      Along (arrived_step queues book of_partner s packet truth)
      (arrived_step queues book of_anyone (forget_links s) packet (truth_alone truth))
  arrived_along packet =
      checked_along forget_links IsSeen (packet.src == s.peer && packet.dst == s.node) (packet.src == s.peer && packet.dst == s.node) WrongNode _ _
      refl
      (row_along queues book of_partner of_anyone forget_links IsSeen IsCrossed crosses truth s (after queues book s)
      (after queues book (forget_links s)) (after_along queues book s) (arrival_row packet.message) (arrival_asks packet.message))
