-- The links of a node keep the addresses of the node and of the other one, whatever they do.
use Rattle.accusing_links.proofs.Prelude.{◌≡◌, ℕ, true, Option, List, ◌&&◌, eqb, subst, WrongNode, Queues, LinkTag, LinkOf, LinksOf, Carried}
use Rattle.accusing_links.proofs.Prelude.{Effect, user_row, sending_row, arrival_row, after, of_none, Sent, sent_as, WireSegments, wire_segments}
use Rattle.accusing_links.proofs.Prelude.{WireLinks, wire_links_user, wire_links_sent, wire_links_arrived, PartnerRule, LinkEventValue}
use Rattle.accusing_links.proofs.{Answered.Good, Answered.good_check, Along.OfRow, Along.sends_by_row}
use Rattle.accusing_links.proofs.Rows.{AreKept, after_kept, user_kept, arrived_kept, always_shows, always_sends}

abbrev Whatever : OfRow
Whatever n l = Unit {0}

pub record HaveAddresses {D : Type 0} (node peer : ℕ) (s : LinksOf D) : Type 0 where
  pub own : s.node ≡ node
  pub other : s.peer ≡ peer

-- a message that is sent goes from this node to the other one
abbrev pub GoesOut : (node peer : ℕ) → Carried → Type 0
GoesOut node peer packet = (eqb packet.src node && eqb packet.dst peer) ≡ true

module _ (queues : Queues) (node peer : ℕ) (s : WireLinks) (is : HaveAddresses node peer s) where
  abbrev Kept : WireLinks → Type 0
  Kept made = HaveAddresses node peer made

  abbrev Out : Carried → Sent WireSegments (Unit {0}) → Type 0
  Out packet made = Kept made.links × GoesOut node peer packet

  all_keep : AreKept queues s Whatever Kept
  all_keep = record {
    same = is;
    there = λ n l at. tt;
    forgets = λ n l now. tt;
    settles = λ n l now. tt;
    pushes = λ x l are now. record { own = are.own; other = are.other };
    changes = λ x n l are now. record { own = are.own; other = are.other };
    boots = record { own = is.own; other = is.other };
  }

  each : (es : List Effect) (n : Option ℕ) (l : LinkOf WireSegments) (k : Unit {0}) → Unit {0} → Kept (after queues wire_segments s es n l k)
  each = after_kept queues s Whatever Kept all_keep

  pub user_keeps : (event : LinkEventValue) → Good Kept (wire_links_user queues s event)
  user_keeps event =
      user_kept queues s Whatever Kept all_keep event (always_shows queues s (Unit {0}) tt (of_none queues wire_segments) (user_row event))

  pub arrived_keeps : (rule : PartnerRule) (packet : Carried) (tag : LinkTag) → Good Kept (wire_links_arrived queues rule s packet tag)
  arrived_keeps rule packet tag =
      arrived_kept queues s Whatever Kept all_keep rule packet tag
      (always_shows queues s (Unit {0}) tt (record { tag = tag; known = tt }) (arrival_row packet.message))

  pub sent_keeps : (packet : Carried) → Good (Out packet) (wire_links_sent queues s packet)
  sent_keeps packet =
      good_check (Out packet) (eqb packet.src s.node && eqb packet.dst s.peer) WrongNode _ (λ e.
      sends_by_row queues (of_none queues wire_segments) s (λ es n l. Unit {0}) (λ test. test) (sent_as queues wire_segments s) (Out packet)
      (λ es n l k now. (
        each es n l k now,
        subst (λ (x : ℕ). (eqb packet.src node && eqb packet.dst x) ≡ true) is.other
            (subst (λ (x : ℕ). (eqb packet.src x && eqb packet.dst s.peer) ≡ true) is.own e),
      )) (sending_row packet.message) (always_sends queues s (Unit {0}) tt (of_none queues wire_segments) (sending_row packet.message)))
