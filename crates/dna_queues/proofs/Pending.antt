-- What waits for links that have ended in the machine is acted on: first what ended each, and then nothing more happens to it.
use Rattle.dna_queues.proofs.Prelude.{◌≡◌, ℕ, true, false, ◌&&◌, ◌==◌, Option, Some, None, List, [], ◌∷◌, length, Ok, refl, sym, ap, ◌∙◌, subst}
use Rattle.dna_queues.proofs.Prelude.{eqb-true, slice_get, WrongNode, Without, is_live, is_at, are_same, of_partner, arrived_step, message_arrived}
use Rattle.dna_queues.proofs.Prelude.{SentMessage, LinkRecord, late_segments, Links, Node, Acts, ComesTo, AllActed, Next, Takes, First, Behind}
use Rattle.dna_queues.proofs.Prelude.{link_it_is_for, waiting, MadeByHidden, Hides}
use Rattle.dna_queues.proofs.Facts.{not_both, passed_check, by_test}
use Rattle.dna_queues.proofs.{Acting.ended_late, Lists.takes_first, Lists.takes_other, Hide.LateLink, SentTimed.takes_waiting, SentTimed.same_is}
use Rattle.dna_queues.proofs.{EndsActed.EndsAt, EndsActed.acts_one}
use Rattle.dna_queues.proofs.LinkLists.{IsUnique, IsChanged, unique_changed, changed_each}
use Rattle.dna_queues.proofs.Timed.{is_end, IsKept, AreKept, kept_as}

-- ---- all that waits

-- the first that waits for a live link ends it
abbrev pub GoodFor : LateLink → List SentMessage → Type 0
GoodFor h [] = Unit {0}
GoodFor h (unit ∷ units) = is_live h.port.phase ≡ true → is_end unit.packet.message h.port ≡ true

abbrev pub AreGood : Links → List SentMessage → Type 0
AreGood s kept = (i : ℕ) (h : LateLink) → slice_get s.links i ≡ Some h → GoodFor h (waiting link_it_is_for h.port.own kept)

-- the link once all that waits for it was acted on
abbrev pub then_ended : List SentMessage → LateLink → LateLink
then_ended [] h = h
then_ended (unit ∷ units) h = ended_late h

good_dead : (h : LateLink) (kept : List SentMessage) → is_live h.port.phase ≡ false → GoodFor h kept
good_dead h [] over = tt
good_dead h (unit ∷ units) over = λ live. absurd (not_both _ live over)

module _ (kept left : List SentMessage) (unit : SentMessage) (takes : Takes link_it_is_for kept unit left) (address : ℕ)
    (is : link_it_is_for unit ≡ Some address) where
  here_first : (own : Option ℕ) → is_at own address ≡ true → waiting link_it_is_for own kept ≡ unit ∷ waiting link_it_is_for own left
  here_first own e = takes_first link_it_is_for kept left unit own takes (ap (λ (o : Option ℕ). are_same o own) is ∙ e)

  other_same : (own : Option ℕ) → is_at own address ≡ false → waiting link_it_is_for own kept ≡ waiting link_it_is_for own left
  other_same own e = takes_other link_it_is_for kept left unit own takes (ap (λ (o : Option ℕ). are_same o own) is ∙ e)

  module _ (s : Links) (unique : IsUnique s) (good : AreGood s kept) where
    pub ends_first : EndsAt s address unit.packet.message
    ends_first i h at own = subst (GoodFor h) (here_first h.port.own own) (good i h at)

    module _ (links : Links) (c : IsChanged s links address ended_late) where
      pub good_left : AreGood links left
      good_left i k at =
          changed_each s links address ended_late c (λ x. GoodFor x (waiting link_it_is_for x.port.own left)) i
          (λ h there own. good_dead (ended_late h) _ refl)
          (λ h there own. subst (GoodFor h) (other_same h.port.own own) (good i h there)) k at

      pub unique_left : IsUnique links
      unique_left = unique_changed s links address ended_late c (λ h. refl) unique

      -- what is then still to come of a link
      pub then_left : (i : ℕ) (h : LateLink) → slice_get s.links i ≡ Some h →
          (k : LateLink) × (slice_get links.links i ≡ Some k) × (k.port.own ≡ h.port.own)
          × (then_ended (waiting link_it_is_for k.port.own left) k ≡ then_ended (waiting link_it_is_for h.port.own kept) h)
      then_left i h at = by_test (is_at h.port.own address)
          (λ own. (
            ended_late h,
            c.here i h at own,
            refl,
            twice (waiting link_it_is_for h.port.own left)
                ∙ ap (λ (us : List SentMessage). then_ended us h) (sym (here_first h.port.own own)),
          ))
          (λ own. (h, c.other i h at own, refl, ap (λ (us : List SentMessage). then_ended us h) (sym (other_same h.port.own own))))
        where
          twice : (us : List SentMessage) → then_ended us (ended_late h) ≡ ended_late h
          twice [] = refl
          twice (u ∷ us) = refl

arrives : (s : Links) (unit : SentMessage) (links : Links) → (unit.packet.src == s.peer && unit.packet.dst == s.node) ≡ true →
    message_arrived Without late_segments of_partner s unit.packet.message unit.truth ≡ Ok links →
    arrived_step Without late_segments of_partner s unit.packet unit.truth ≡ Ok links
arrives s unit links may does = passed_check (unit.packet.src == s.peer && unit.packet.dst == s.node) WrongNode _ may ∙ does

-- What all would come to
pub record ComesAll (n : Node) : Type 0 where
  pub links : Links
  pub comes : ComesTo n links
  pub node : links.node ≡ n.links.node
  pub peer : links.peer ≡ n.links.peer
  pub size : length links.links ≡ length n.links.links
  pub all : (i : ℕ) (h : LateLink) → slice_get n.links.links i ≡ Some h →
      slice_get links.links i ≡ Some (then_ended (waiting link_it_is_for h.port.own n.kept) h)
  pub unique : IsUnique links

pub comes_all : (s : Links) (kept composed : List SentMessage) → IsUnique s → AreKept s.node s.peer kept → AreGood s kept →
    ComesAll (record { links = s; kept = kept; composed = composed })
comes_all s [] composed unique are good = record {
  links = s;
  comes = AllActed _ refl;
  node = refl;
  peer = refl;
  size = refl;
  all = λ i h at. at;
  unique = unique;
}
comes_all s (unit ∷ units) composed unique are good =
    let k = are.0 in
    let takes = First unit units in
    let a = acts_one s unique k.address unit.truth unit.packet.message k.for_it
    (ends_first (unit ∷ units) units unit takes k.address k.for_it s unique good) in
    let c = a.changed in
    let r = comes_all a.links units composed (unique_left (unit ∷ units) units unit takes k.address k.for_it s unique good a.links c)
    (kept_as s.node s.peer a.links.node a.links.peer units (sym c.node) (sym c.peer) are.1)
    (good_left (unit ∷ units) units unit takes k.address k.for_it s unique good a.links c) in
    record {
      links = r.links;
      comes = Next _ unit units a.links r.links takes (arrives s unit a.links k.goes a.does) r.comes;
      node = r.node ∙ c.node;
      peer = r.peer ∙ c.peer;
      size = r.size ∙ c.size;
      all = λ i h at. let t = then_left (unit ∷ units) units unit takes k.address k.for_it s unique good a.links c i h at in
          r.all i t.0 t.1 ∙ ap Some t.3;
      unique = r.unique;
    }

-- ---- all that waits for one address

pub record Flushed (n : Node) (address : ℕ) : Type 0 where
  pub next : Node
  pub node : next.links.node ≡ n.links.node
  pub peer : next.links.peer ≡ n.links.peer
  pub size : length next.links.links ≡ length n.links.links
  pub composed : next.composed ≡ n.composed
  pub unique : IsUnique next.links
  pub kept : AreKept n.links.node n.links.peer next.kept
  pub none : waiting link_it_is_for (Some address) next.kept ≡ []
  pub others : (own : Option ℕ) → is_at own address ≡ false → waiting link_it_is_for own next.kept ≡ waiting link_it_is_for own n.kept
  pub here : (i : ℕ) (h : LateLink) → slice_get n.links.links i ≡ Some h → is_at h.port.own address ≡ true →
      slice_get next.links.links i ≡ Some (then_ended (waiting link_it_is_for h.port.own n.kept) h)
  pub other : (i : ℕ) (h : LateLink) → slice_get n.links.links i ≡ Some h → is_at h.port.own address ≡ false →
      slice_get next.links.links i ≡ Some h
  pub on : (records : List LinkRecord) → MadeByHidden next records → MadeByHidden n records

kept_left : (node peer : ℕ) (kept left : List SentMessage) (unit : SentMessage) → Takes link_it_is_for kept unit left → AreKept node peer kept →
    IsKept node peer unit × AreKept node peer left
kept_left node peer kept left unit (First _ _) are = are
kept_left node peer kept left unit (Behind other _ rest rest_left differs takes) are =
    let r = kept_left node peer rest rest_left unit takes are.1 in (r.0, (are.0, r.1))

pub flush : (units : List SentMessage) (n : Node) (address : ℕ) → waiting link_it_is_for (Some address) n.kept ≡ units → IsUnique n.links →
    AreKept n.links.node n.links.peer n.kept → AreGood n.links n.kept → Flushed n address
flush [] n address waits unique are good = record {
  next = n;
  node = refl;
  peer = refl;
  size = refl;
  composed = refl;
  unique = unique;
  kept = are;
  none = waits;
  others = λ own e. refl;
  here = λ i h at own. at ∙ ap Some (ap (λ (us : List SentMessage). then_ended us h) (sym (nothing h.port.own own)));
  other = λ i h at own. at;
  on = λ records made. made;
}
  where
    nothing : (own : Option ℕ) → is_at own address ≡ true → waiting link_it_is_for own n.kept ≡ []
    nothing None e = absurd cc
    nothing (Some x) e = ap (λ (m : ℕ). waiting link_it_is_for (Some m) n.kept) (eqb-true x address e) ∙ waits
flush (unit ∷ units) n address waits unique are good =
    let t = takes_waiting link_it_is_for n.kept unit units (Some address) waits in
    let is = same_is (link_it_is_for unit) address t.is in
    let k = kept_left n.links.node n.links.peer n.kept t.left unit t.takes are in
    let a = acts_one n.links unique address unit.truth unit.packet.message is
    (ends_first n.kept t.left unit t.takes address is n.links unique good) in
    let c = a.changed in
    let next : Node = record { links = a.links; kept = t.left; composed = n.composed } in
    let first = takes_first link_it_is_for n.kept t.left unit (Some address) t.takes t.is in
    let r = flush units next address (rest_same first waits)
    (unique_left n.kept t.left unit t.takes address is n.links unique good a.links c)
    (kept_as n.links.node n.links.peer a.links.node a.links.peer t.left (sym c.node) (sym c.peer) k.1)
    (good_left n.kept t.left unit t.takes address is n.links unique good a.links c) in
    record {
      next = r.next;
      node = r.node ∙ c.node;
      peer = r.peer ∙ c.peer;
      size = r.size ∙ c.size;
      composed = r.composed;
      unique = r.unique;
      kept = kept_as a.links.node a.links.peer n.links.node n.links.peer r.next.kept c.node c.peer r.kept;
      none = r.none;
      others = λ own e. r.others own e ∙ sym (other_same n.kept t.left unit t.takes address is own e);
      here = λ i h at own. let l = then_left n.kept t.left unit t.takes address is n.links unique good a.links c i h at in
          r.here i l.0 l.1 (ap (λ (o : Option ℕ). is_at o address) l.2 ∙ own) ∙ ap Some l.3;
      other = λ i h at own. r.other i h (c.other i h at own) own;
      on = λ records made. Hides n next records (Acts unit t.left a.links t.takes (arrives n.links unit a.links k.0.goes a.does)) (r.on records made);
    }
  where
    rest_same : {left : List SentMessage} → waiting link_it_is_for (Some address) n.kept ≡ unit ∷ left →
        waiting link_it_is_for (Some address) n.kept ≡ unit ∷ units → left ≡ units
    rest_same first waits = let x : unit ∷ _ ≡ unit ∷ units = sym first ∙ waits in cc
