-- What is made of links that are alike except for those that are over and have no address, and what is near to them.
use Rattle.dna_queues.proofs.Prelude.{◌≡◌, inl, inr, Some, List, [], ◌∷◌, Result, Ok, Err, refl, ap, ◌∙◌, subst, slice_get, NspValue, DataSegment}
use Rattle.dna_queues.proofs.Prelude.{DataAck, LinkRefusal, ActedOn, With, LinkTruth, user_row, sending_row, arrival_row, after, of_none, Sent}
use Rattle.dna_queues.proofs.Prelude.{sent_as, of_partner, TrueSegments, Numbers, true_segments, IsAnswered, ComesNear, IsActedOn, ArrivesNear}
use Rattle.dna_queues.proofs.Prelude.{LinkRecord, OfUser, Sends, Keeps, OfNoLink, links_left, next_links, MadeByMachine, AreAnswered, IsNear}
use Rattle.dna_queues.proofs.Prelude.{AreNear}
use Rattle.dna_links.specs.TrueLinks as machine
use Rattle.dna_queues.proofs.{Facts.not_both, Goes.Link, LinkLists.there_too}
use Rattle.dna_queues.proofs.Gone.{IsGone, AreSameOrGone, Alike, gone_fails, after_alike, ResultsAlike, goes_alike, row_alike}

-- ---- every record

module _ (s t : machine.Links) (a : Alike s t) where
  left_alike : (r q : Result (Sent TrueSegments Numbers) LinkRefusal) →
      ResultsAlike (λ (x y : Sent TrueSegments Numbers). Alike x.links y.links) r q → ResultsAlike Alike (links_left r) (links_left q)
  left_alike (Ok x) (Ok y) alike = alike
  left_alike (Err x) (Err y) alike = alike
  left_alike (Ok x) (Err y) alike = absurd alike
  left_alike (Err x) (Ok y) alike = absurd alike

  next_alike : (one : LinkRecord) → ResultsAlike Alike (next_links s one) (next_links t one)
  next_alike (OfUser event) =
      row_alike Alike (λ test. test) (of_none With true_segments) s t a (after With true_segments s) (after With true_segments t)
      (after_alike s t a) (user_row event)
  next_alike (Sends packet) =
      left_alike _ _ (goes_alike (λ (x y : Sent TrueSegments Numbers). Alike x.links y.links) packet s.node s.peer t.node t.peer _ _ a.node a.peer
      (row_alike (λ (x y : Sent TrueSegments Numbers). Alike x.links y.links) (λ test. test) (of_none With true_segments) s t a
      (sent_as With true_segments s) (sent_as With true_segments t) (after_alike s t a) (sending_row packet.message)))
  next_alike (Keeps unit) =
      goes_alike Alike unit.packet s.peer s.node t.peer t.node _ _ a.peer a.node
      (row_alike Alike of_partner unit.truth s t a (after With true_segments s) (after With true_segments t) (after_alike s t a)
      (arrival_row unit.packet.message))
  next_alike OfNoLink = a

-- what is made of the one is made of the other
pub made_alike : (later : List LinkRecord) (s t : machine.Links) → Alike s t → MadeByMachine s later → MadeByMachine t later
made_alike [] s t a made = tt
made_alike (one ∷ later) s t a made =
    go (next_links t one) refl (subst (λ (r : Result machine.Links LinkRefusal). ResultsAlike Alike r (next_links t one)) made.1
    (next_alike s t a one))
    (λ u b. made_alike later made.0 u b made.2)
  where
    go : (r : Result machine.Links LinkRefusal) → next_links t one ≡ r → ResultsAlike Alike (Ok made.0) r →
        ((u : machine.Links) → Alike made.0 u → MadeByMachine u later) → MadeByMachine t (one ∷ later)
    go (Ok left) e b rest = (left, e, rest left b)
    go (Err refusal) e b rest = absurd b

-- ---- what is near

module _ (s t : machine.Links) (a : Alike s t) where
  answered_alike : AreAnswered s → AreAnswered t
  answered_alike answered i y at_y =
      let x = there_too s.links t.links i y a.size at_y in go x.0 (answered i x.0 x.1) (a.all i x.0 y x.1 at_y)
    where
      go : (x : Link) → IsAnswered x.segments → AreSameOrGone x y → IsAnswered y.segments
      go x near (inl e) = subst (λ (z : Link). IsAnswered z.segments) e near
      go x near (inr g) = g.1.answered

  not_acted : (m : NspValue) (l : Link) → IsGone l → IsActedOn m l.port → ⊥
  not_acted (DataSegment segment) l g acted = not_both _ acted (gone_fails (ActedOn segment.dstaddr segment.srcaddr) l.port g.phase g.own)
  not_acted (DataAck dst src acks) l g acted = not_both _ acted (gone_fails (ActedOn dst src) l.port g.phase g.own)
  not_acted m l g acted = absurd acted

  near_at : (m : NspValue) (truth : LinkTruth Numbers) → ArrivesNear of_partner s m truth → ArrivesNear of_partner t m truth
  near_at m truth near number y at_y acted pair =
      let x = there_too s.links t.links number y a.size at_y in go x.0 x.1 (a.all number x.0 y x.1 at_y)
    where
      go : (x : Link) → slice_get s.links number ≡ Some x → AreSameOrGone x y → ComesNear y.segments m truth.known
      go x at_x (inl e) = near number y (at_x ∙ ap Some e) acted pair
      go x at_x (inr g) = absurd (not_acted m y g.1 acted)

  one_near : (one : LinkRecord) → IsNear s one → IsNear t one
  one_near (Keeps unit) near = near_at unit.packet.message unit.truth near
  one_near p near = tt

pub near_alike : (later : List LinkRecord) (s t : machine.Links) → Alike s t → AreNear s later → AreNear t later
near_alike [] s t a near = answered_alike s t a near
near_alike (one ∷ later) s t a near = (
  answered_alike s t a near.0,
  one_near s t a one near.1,
  λ left is. go left (next_links s one) refl
      (subst (λ (r : Result machine.Links LinkRefusal). ResultsAlike Alike (next_links s one) r) is (next_alike s t a one))
      (λ u b n. near_alike later u left b n),
)
  where
    go : (left : machine.Links) (r : Result machine.Links LinkRefusal) → next_links s one ≡ r → ResultsAlike Alike r (Ok left) →
        ((u : machine.Links) → Alike u left → AreNear u later → AreNear left later) → AreNear left later
    go left (Ok u) e b rest = rest u b (near.2 u e)
    go left (Err refusal) e b rest = absurd b
