-- One record: what is left goes along with one that is judged, is the same after one that is left out, and fits.
use Rattle.dna_leaving.proofs.Prelude.{◌≡◌, ℕ, Bool, true, false, not, ◌&&◌, eqb, Option, None, List, length, Result, Ok, Err, refl, ap, ◌∙◌, ◌≤◌}
use Rattle.dna_leaving.proofs.Prelude.{arith, IfSome, LinkRefusal, WrongNode, Queues, SegmentBook, LinkOf, LinksOf, LinkTruth, Carried}
use Rattle.dna_leaving.proofs.Prelude.{LinkEventValue, Effect, Row, Asks, user_row, sending_row, arrival_row, after, by_row, of_none, user_step}
use Rattle.dna_leaving.proofs.Prelude.{blank, Sent, sent_as, message_sent, sent_step, truth_as, message_arrived, arrived_step, LinkRules}
use Rattle.dna_leaving.proofs.Prelude.{LinkRecord, OfUser, Sends, Keeps, OfNoLink, links_then, next_links, LeftOut, source_of, destination_of}
use Rattle.dna_leaving.proofs.Prelude.{event_out, kept_out, message_out, is_out, Judged, links_left, truth_left, sent_left, left_of_result}
use Rattle.dna_leaving.proofs.Prelude.{renumbered, AreFit, LinkFits, IsOfJudged, EventBinds, MessageBinds, NamesJudged, IsRight}
use Rattle.dna_links.specs.User as user
use Rattle.dna_leaving.proofs.Effects.{AllFit, kept_fit}
use Rattle.dna_leaving.proofs.After.{after_left, after_out, after_fit, after_grows, SameNodes, after_nodes}
use Rattle.dna_leaving.proofs.Asked.{RowFits, AnswersLeft, row_left, check_left}
use Rattle.dna_leaving.proofs.Answered.{IfMade, AnswersHold, asked_holds, blank_fits, check_holds}
use Rattle.dna_leaving.proofs.Rows.{event_fits, sending_fits, arrival_fits}

-- ---- a row

module _ {D K : Type 0} (queues : Queues) (book : SegmentBook D K) (rule : Bool → Bool) (truth : LinkTruth K) (out : LeftOut) (judged : Judged)
    (s : LinksOf D) (fit : AreFit out judged s) where
  abbrev left_truth : LinkTruth K
  left_truth = truth_left judged.there judged.here truth

  by_row_left : {R R' : Type 0} (g : R → R') (answer : List Effect → Option ℕ → LinkOf D → K → R)
      (answer' : List Effect → Option ℕ → LinkOf D → K → R') → AnswersLeft queues book rule truth out judged s fit answer answer' g →
      (row : Row) → RowFits out judged true truth row →
      left_of_result g (by_row queues book rule truth s answer row) ≡ by_row queues book rule left_truth (links_left judged s) answer' row
  by_row_left g answer answer' answers (Asks asks effects) fits =
      row_left queues book rule truth out judged s fit answer answer' g answers _ asks fits.0
      (kept_fit out judged.there true queues truth.tag.link effects fits.1)

  by_row_holds : {R : Type 0} (answer : List Effect → Option ℕ → LinkOf D → K → R) (b : Bool) (P : R → Type 0) →
      AnswersHold queues book rule truth out judged s fit answer b P → (row : Row) → RowFits out judged b truth row →
      IfMade P (by_row queues book rule truth s answer row)
  by_row_holds answer b P answers (Asks asks effects) fits =
      asked_holds queues book rule truth out judged s fit answer b P answers _ asks None (blank queues book) truth.known fits.0
      (kept_fit out judged.there b queues truth.tag.link effects fits.1) tt
      (blank_fits queues book rule truth out judged s fit answer b P)

  module _ (next : judged.here (length s.links) ≡ true) where
    links_by_row : (row : Row) → RowFits out judged true truth row →
        left_of_result (links_left judged) (by_row queues book rule truth s (after queues book s) row)
        ≡ by_row queues book rule left_truth (links_left judged s) (after queues book (links_left judged s)) row
    links_by_row row fits =
        by_row_left (links_left judged) (after queues book s) (after queues book (links_left judged s))
        (λ effects number link known all is. after_left queues book out judged s fit truth.tag.link known effects number link all is next) row fits

-- ---- a record

module _ {D K : Type 0} (rules : LinkRules D K) (out : LeftOut) (judged : Judged) (s : LinksOf D) (fit : AreFit out judged s) where
  abbrev nobody : LinkTruth K
  nobody = of_none rules.queues rules.book

  abbrev with_truth : LinkTruth K → LinksOf D → Sent D K
  with_truth truth links = record { links = links; truth = truth }

  module _ (next : judged.here (length s.links) ≡ true) where
    user_left : (event : LinkEventValue) → event_out out event ≡ false → user.IsInRange event → EventBinds out event →
        left_of_result (links_left judged) (user_step rules.queues rules.book s event) ≡ user_step rules.queues rules.book
        (links_left judged s) event
    user_left event is range binds =
        links_by_row rules.queues rules.book (λ test. test) nobody out judged s fit next (user_row event)
        (event_fits rules.queues rules.book out judged true event is range binds)

    -- what is sent has the truth that is left
    pub packet_left : (packet : Carried) → message_out out packet.message ≡ false →
        left_of_result (sent_left judged) (sent_step rules.queues rules.book s packet) ≡ sent_step rules.queues rules.book
        (links_left judged s) packet
    packet_left packet is =
        check_left (sent_left judged) (eqb packet.src s.node && eqb packet.dst s.peer) WrongNode
        (message_sent rules.queues rules.book s packet.message)
        (message_sent rules.queues rules.book (links_left judged s) packet.message)
        (by_row_left rules.queues rules.book (λ test. test) nobody out judged s fit (sent_left judged) (sent_as rules.queues rules.book s)
        (sent_as rules.queues rules.book (links_left judged s))
        (λ effects number link known all of_number. answers effects number link known all of_number)
        (sending_row packet.message) (sending_fits rules.queues rules.book out judged true packet.message is))
      where
        answers : AnswersLeft rules.queues rules.book (λ test. test) nobody out judged s fit (sent_as rules.queues rules.book s)
            (sent_as rules.queues rules.book (links_left judged s)) (sent_left judged)
        answers effects number link known all of_number =
            ap (λ (links : LinksOf D). with_truth (truth_left judged.here judged.there (truth_as rules.queues rules.book number link known)) links)
            (after_left rules.queues rules.book out judged s fit None known effects number link all of_number next)

    arrival_left : (packet : Carried) (truth : LinkTruth K) → kept_out out (source_of packet.message) (destination_of packet.message) ≡ false →
        MessageBinds out packet.message → NamesJudged judged truth.tag →
        left_of_result (links_left judged) (arrived_step rules.queues rules.book rules.partners s packet truth)
        ≡ arrived_step rules.queues rules.book rules.partners (links_left judged s) packet (truth_left judged.there judged.here truth)
    arrival_left packet truth is binds named =
        check_left (links_left judged) (eqb packet.src s.peer && eqb packet.dst s.node) WrongNode
        (message_arrived rules.queues rules.book rules.partners s packet.message truth)
        (message_arrived rules.queues rules.book rules.partners (links_left judged s) packet.message (truth_left judged.there judged.here truth))
        (links_by_row rules.queues rules.book rules.partners truth out judged s fit next (arrival_row packet.message)
        (arrival_fits rules.queues rules.book out judged true truth (λ e. named) packet.message is binds))

  -- what becomes of links, where only they are asked for
  links_then_left : (r : Result (Sent D K) LinkRefusal) →
      left_of_result (links_left judged) (links_then r) ≡ links_then (left_of_result (sent_left judged) r)
  links_then_left (Ok made) = refl
  links_then_left (Err refusal) = refl

  links_then_hold : (P : LinksOf D → Type 0) (r : Result (Sent D K) LinkRefusal) →
      IfMade (λ (made : Sent D K). P made.links) r → IfMade P (links_then r)
  links_then_hold P (Ok made) held = held
  links_then_hold P (Err refusal) held = tt

  pub next_left : (one : LinkRecord K) → is_out out one ≡ false → IsRight out judged one → judged.here (length s.links) ≡ true →
      left_of_result (links_left judged) (next_links rules s one) ≡ next_links rules (links_left judged s) (renumbered judged one)
  next_left (OfUser event) is right next = user_left next event is right.0 right.1
  next_left (Sends packet) is right next =
      links_then_left (sent_step rules.queues rules.book s packet) ∙ ap links_then (packet_left next packet is)
  next_left (Keeps packet truth) is right next = arrival_left next packet truth is right.0 (right.1 is)
  next_left OfNoLink is right next = refl

  -- What holds of all answers holds of what a record comes to, where what is next found is judged, or left out, as the record
  module _ (b : Bool) (P : LinksOf D → Type 0)
      (answers : (partner : Option ℕ) (effects : List Effect) (number : Option ℕ) (link : LinkOf D) (known : K) →
      AllFit out judged.there b partner effects → IfSome number (λ n. judged.here n ≡ b) → LinkFits out judged.there b link →
      P (after rules.queues rules.book s effects number link known)) where
    pub next_holds : P s → (one : LinkRecord K) → is_out out one ≡ not b → IsRight out judged one → IfMade P (next_links rules s one)
    next_holds held (OfUser event) is right =
        by_row_holds rules.queues rules.book (λ test. test) nobody out judged s fit (after rules.queues rules.book s) b P (answers None)
        (user_row event)
        (event_fits rules.queues rules.book out judged b event is right.0 right.1)
    next_holds held (Sends packet) is right =
        links_then_hold P (sent_step rules.queues rules.book s packet)
        (check_holds (λ (made : Sent D K). P made.links) (eqb packet.src s.node && eqb packet.dst s.peer) WrongNode
        (message_sent rules.queues rules.book s packet.message)
        (by_row_holds rules.queues rules.book (λ test. test) nobody out judged s fit (sent_as rules.queues rules.book s) b
        (λ (made : Sent D K). P made.links) (answers None) (sending_row packet.message)
        (sending_fits rules.queues rules.book out judged b packet.message is)))
    next_holds held (Keeps packet truth) is right =
        check_holds P (eqb packet.src s.peer && eqb packet.dst s.node) WrongNode
        (message_arrived rules.queues rules.book rules.partners s packet.message truth)
        (by_row_holds rules.queues rules.book rules.partners truth out judged s fit (after rules.queues rules.book s) b P (answers truth.tag.link)
        (arrival_row packet.message)
        (arrival_fits rules.queues rules.book out judged b truth (λ judged_is. right.1 (judged_record b judged_is is)) packet.message is right.0))
      where
        judged_record : (c : Bool) → c ≡ true → {o : Bool} → o ≡ not c → o ≡ false
        judged_record true e is = is
        judged_record false e is = absurd cc
    next_holds held OfNoLink is right = held

  -- a record that is left out
  pub next_out : (one : LinkRecord K) → is_out out one ≡ true → IsRight out judged one → judged.here (length s.links) ≡ false →
      IfMade (λ (left : LinksOf D). links_left judged left ≡ links_left judged s) (next_links rules s one)
  next_out one is right next =
      next_holds false (λ (left : LinksOf D). links_left judged left ≡ links_left judged s)
      (λ partner effects number link known all of_number of_link.
      after_out rules.queues rules.book out judged s fit partner known effects number link all of_number next) refl one is right

  -- what is left fits on
  pub next_fit : (b : Bool) (one : LinkRecord K) → is_out out one ≡ not b → IsRight out judged one → judged.here (length s.links) ≡ b →
      IfMade (AreFit out judged) (next_links rules s one)
  next_fit b one is right next =
      next_holds b (AreFit out judged)
      (λ partner effects number link known all of_number of_link.
      after_fit rules.queues rules.book out judged s fit partner known b effects number link of_link of_number next) fit one is right

  -- no link is ever forgotten
  pub next_grows : (b : Bool) (one : LinkRecord K) → is_out out one ≡ not b → IsRight out judged one →
      IfMade (λ (left : LinksOf D). length s.links ≤ length left.links) (next_links rules s one)
  next_grows b one is right =
      next_holds b (λ (left : LinksOf D). length s.links ≤ length left.links)
      (λ partner effects number link known all of_number of_link. after_grows rules.queues rules.book s effects number link known)
      (omega arith) one is right

  -- nor does a node become another
  pub next_nodes : (b : Bool) (one : LinkRecord K) → is_out out one ≡ not b → IsRight out judged one →
      IfMade (SameNodes rules.queues rules.book s) (next_links rules s one)
  next_nodes b one is right =
      next_holds b (SameNodes rules.queues rules.book s)
      (λ partner effects number link known all of_number of_link. after_nodes rules.queues rules.book s effects number link known)
      (record { node = refl; peer = refl }) one is right

  -- what is sent is of a link that is judged, or left out, as the record
  abbrev pub IsTagged : Bool → Sent D K → Type 0
  IsTagged b made = IfSome made.truth.tag.link (λ n. judged.here n ≡ b) × (b ≡ true → IsOfJudged judged.there made.truth.tag.partner)

  pub sent_tagged : (b : Bool) (packet : Carried) → message_out out packet.message ≡ not b →
      IfMade (IsTagged b) (sent_step rules.queues rules.book s packet)
  sent_tagged b packet is =
      check_holds (IsTagged b) (eqb packet.src s.node && eqb packet.dst s.peer) WrongNode (message_sent rules.queues rules.book s packet.message)
      (by_row_holds rules.queues rules.book (λ test. test) nobody out judged s fit (sent_as rules.queues rules.book s) b (IsTagged b)
      (λ effects number link known all of_number of_link. (of_number, of_link.partner)) (sending_row packet.message)
      (sending_fits rules.queues rules.book out judged b packet.message is))
