-- What is left of a packet that is sent, or composed.
use Rattle.dna_leaving.proofs.Prelude.{◌≡◌, ℕ, ◌<◌, ◌≤◌, Bool, true, false, not, cond, ◌⊎◌, inl, inr, Option, Some, None, List, [], ◌∷◌, ◌++◌, map}
use Rattle.dna_leaving.proofs.Prelude.{length, Ok, refl, sym, ap, ap₂, ◌∙◌, arith, subst, option_map, lt-ltb, slice_get, map-append}
use Rattle.dna_leaving.proofs.Prelude.{slice_get_within, same_Some, at_pushed, Queues, Carried, LinkEventValue, Sent, TrueSegments, Numbers, Links}
use Rattle.dna_leaving.proofs.Prelude.{links_sent, SentMessage, LinkSide, sends, SendsNone, Composes, rank}
use Rattle.dna_leaving.proofs.Prelude.{true_rules, LinkRecord, Sends, links_then, next_links, LeftOut, nothing_out, message_out, is_out, Judged}
use Rattle.dna_leaving.proofs.Prelude.{links_left, sent_left, left_of_result, judged_then, LinkFits, AreFit, other_out, other_judged, message_left}
use Rattle.dna_leaving.proofs.Prelude.{side_left}
use Rattle.dna_links.specs.Runs as runs
use Rattle.dna_leaving.proofs.Steps.{packet_left}
use Rattle.dna_leaving.proofs.Lists.{marked_before, fit_then, left_then, next_mark}
use Rattle.dna_leaving.proofs.Units.{below, there_are, UnitRight, unit_more, unit_sent}
use Rattle.dna_leaving.proofs.Sides.{SideRight, Follows, Stays, Does, follows_as, rank_as, RecordRight, packet_right}
use Rattle.dna_leaving.proofs.Sides.{links_next, unseen, grows, mine_next, sent_before, theirs_next}
use Rattle.dna_leaving.proofs.StepsLeft.{StepLeft}

module _ (queues : Queues) (out : LeftOut) (judged : Judged) (own other : LinkSide) (mine : SideRight out judged own other)
    (theirs : SideRight (other_out out) (other_judged judged) other own) where
  abbrev own_size : ℕ
  own_size = length own.links.links

  abbrev other_size : ℕ
  other_size = length other.links.links

  abbrev own_left : LinkSide
  own_left = side_left out judged own

  abbrev other_left : LinkSide
  other_left = side_left (other_out out) (other_judged judged) other

  abbrev mapped : List (Option SentMessage) → List (Option SentMessage)
  mapped sent = map (message_left out judged) sent

  abbrev with_links : Links → LinkSide
  with_links links = record { links = links; sent = mapped own.sent; front = own.front }

  -- the link that a record begins has its mark
  abbrev AreMarked : LinkRecord Numbers → Links → Type 0
  AreMarked one left = (n : ℕ) → own_size ≤ n → n < length left.links → judged.here n ≡ not (is_out out one)

  abbrev Left : List LinkEventValue → LinkSide → Type 0
  Left events left = StepLeft queues out judged own other mine theirs events left

  -- ---- a packet that is sent, or composed

  module _ (packet : Carried) (made : Sent TrueSegments Numbers) (e : links_sent queues own.links packet ≡ Ok made)
      (marks : AreMarked (Sends packet) made.links) where
    abbrev unit : SentMessage
    unit = record { packet = packet; truth = made.truth }

    abbrev one : LinkRecord Numbers
    one = Sends packet

    abbrev then : Judged
    then = judged_then out judged own.links one

    abbrev made_left : Sent TrueSegments Numbers
    made_left = sent_left judged made

    r : RecordRight queues out judged own other mine theirs one
    r = packet_right queues out judged own other mine theirs packet

    made_is : next_links (true_rules queues) own.links one ≡ Ok made.links
    made_is = ap links_then e

    all_there : AreFit nothing_out (there_are own_size other_size) own.links
    all_there n l there =
        subst (λ (b : Bool). LinkFits nothing_out (below other_size) b l) (sym (lt-ltb n own_size (slice_get_within own.links.links n l there)))
        (mine.known n l there)

    pub sent_right : UnitRight out judged own_size other_size unit
    sent_right = unit_sent queues out judged own.links mine.fit other_size all_there packet made e

    -- the same is made of what is left
    pub made_of_left : message_out out packet.message ≡ false → links_sent queues (links_left judged own.links) packet ≡ Ok made_left
    made_of_left is =
        ap (λ (s : Links). links_sent queues s packet) (sym (left_then (true_rules queues) out judged own.links mine.fit one))
        ∙ sym (packet_left (true_rules queues) out then own.links (fit_then (true_rules queues) out judged own.links mine.fit one)
        (next_mark (true_rules queues) out judged own.links mine.fit one true is) packet is)
        ∙ ap (left_of_result (sent_left then)) e
        ∙ ap Ok (ap₂ sent_with (links_next queues out judged own other mine theirs one r made.links made_is marks)
        (rank_as then.here judged.here own_size (λ n less. marked_before judged.here own_size (not (is_out out one)) n less) made.truth.tag.link
        sent_right.there_is.link))
      where
        sent_with : Links → Option ℕ → Sent TrueSegments Numbers
        sent_with links number = record {
          links = links;
          truth = record {
            tag = record { link = number; partner = option_map (rank judged.there) made.truth.tag.partner };
            known = made.truth.known;
          };
        }

    pub composes_left : Left [] (record { links = made.links; sent = own.sent; front = own.front })
    composes_left = record {
      here = mine_next queues out judged own other mine theirs one r made.links made_is marks own.sent own.front
          (sent_before queues out judged own other mine theirs one r made.links made_is marks);
      there = theirs_next queues out judged own other mine theirs one r made.links made_is marks own.sent own.front;
      follows = go (message_out out packet.message) refl;
    }
      where
        go : (b : Bool) → message_out out packet.message ≡ b → Follows queues own_left other_left [] (with_links (links_left judged made.links))
        go true is =
            follows_as [] own_left [] (with_links (links_left judged made.links)) refl
            (ap with_links (unseen queues out judged own other mine theirs one r made.links made_is marks is)) Stays
        go false is = Does (Composes packet made_left (made_of_left is))

    abbrev sent_side : Links → Option SentMessage → LinkSide
    sent_side links message = record { links = links; sent = mapped own.sent ++ message ∷ []; front = own.front }

    -- with the message at the end
    sent_at_end : (message : Option SentMessage) → message_left out judged (Some unit) ≡ message →
        sent_side (links_left judged made.links) message ≡ side_left out judged (sends own made.links (Some unit))
    sent_at_end message is =
        ap (λ (all : List (Option SentMessage)). record { links = links_left judged made.links; sent = all; front = own.front })
        (ap (λ (m : Option SentMessage). mapped own.sent ++ m ∷ []) (sym is)
        ∙ sym (map-append (message_left out judged) own.sent (Some unit ∷ [])))

    pub sends_left : Left [] (sends own made.links (Some unit))
    sends_left = record {
      here = mine_next queues out judged own other mine theirs one r made.links made_is marks (own.sent ++ Some unit ∷ []) own.front
          (λ place u there. units place u (at_pushed own.sent (Some unit) (Some u) place there));
      there = theirs_next queues out judged own other mine theirs one r made.links made_is marks (own.sent ++ Some unit ∷ []) own.front;
      follows = go (message_out out packet.message) refl;
    }
      where
        units : (place : ℕ) (u : SentMessage) →
            (slice_get own.sent place ≡ Some (Some u)) ⊎ ((place ≡ length own.sent) × (Some unit ≡ Some u)) →
            UnitRight out judged (length made.links.links) other_size u
        units place u (inl there) = sent_before queues out judged own other mine theirs one r made.links made_is marks place u there
        units place u (inr new) =
            subst (UnitRight out judged (length made.links.links) other_size) (same_Some unit u new.1)
            (unit_more out judged own_size (length made.links.links) other_size other_size unit
            (grows queues out judged own other mine theirs one r made.links made_is) (omega arith) sent_right)

        go : (b : Bool) → message_out out packet.message ≡ b →
            Follows queues own_left other_left [] (side_left out judged (sends own made.links (Some unit)))
        go true is =
            follows_as [] (sends own_left own_left.links None) [] (side_left out judged (sends own made.links (Some unit))) refl
            (ap (λ (links : Links). sent_side links None) (unseen queues out judged own other mine theirs one r made.links made_is marks is)
            ∙ sent_at_end None (ap (λ (b : Bool). cond b None (Some (record unit { truth = made_left.truth }))) is))
            (Does SendsNone)
        go false is =
            follows_as [] (sends own_left made_left.links (Some (record { packet = packet; truth = made_left.truth }))) []
            (side_left out judged (sends own made.links (Some unit))) refl
            (sent_at_end (Some (record unit { truth = made_left.truth }))
            (ap (λ (b : Bool). cond b None (Some (record unit { truth = made_left.truth }))) is))
            (Does (runs.Sends packet made_left (made_of_left is)))
