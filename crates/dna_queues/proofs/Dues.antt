-- What was composed of each link and is sent later, and the links with it.
use Rattle.dna_queues.proofs.Prelude.{◌≡◌, ℕ, Bool, true, false, ◌==◌, cond, Option, Some, None, List, [], ◌∷◌, refl, sym, ap, ap₂, ◌∙◌, subst, inl}
use Rattle.dna_queues.proofs.Prelude.{inr, slice_get, cases_eq, NspValue, Phase, Port, With, is_at, Carried, in_use}
use Rattle.dna_links.specs.TrueLinks as machine
use Rattle.dna_queues.proofs.Goes.{Link, phase_of, Goes, node_port}
use Rattle.dna_queues.proofs.{LinkLists.IsUnique, Beside.eqb-same, Beside.eqb-other, Delivered.Leaves, Shapes.goes_shape, Turns.Sane}
use Rattle.dna_queues.proofs.{Early.AreEarly, Early.CanGo}

pub record Due : Type 0 where
  pub packets : List Carried
  pub link : Link

abbrev pub put : ℕ → Due → (ℕ → Due) → ℕ → Due
put i due dues j = cond (j == i) due (dues j)

pub put_here : (i j : ℕ) (due : Due) (dues : ℕ → Due) → j ≡ i → put i due dues j ≡ due
put_here i j due dues same = ap (λ (b : Bool). cond b due (dues j)) (eqb-same j i same)

pub put_other : (i j : ℕ) (due : Due) (dues : ℕ → Due) → (j ≡ i → ⊥) → put i due dues j ≡ dues j
put_other i j due dues differs = ap (λ (b : Bool). cond b due (dues j)) (eqb-other j i differs)

pub put_twice : (i j : ℕ) (first then_put : Due) (dues : ℕ → Due) → put i then_put (put i first dues) j ≡ put i then_put dues j
put_twice i j first then_put dues = go (j == i)
  where
    go : (b : Bool) → cond b then_put (cond b first (dues j)) ≡ cond b then_put (dues j)
    go true = refl
    go false = refl

pub put_packets : (i j : ℕ) (due : Due) (dues : ℕ → Due) → due.packets ≡ (dues i).packets → (put i due dues j).packets ≡ (dues j).packets
put_packets i j due dues same =
    elim (cases_eq j i) [
      | inl e ↦ ap (λ (d : Due). d.packets) (put_here i j due dues e) ∙ same ∙ ap (λ (m : ℕ). (dues m).packets) (sym e)
      | inr differs ↦ ap (λ (d : Due). d.packets) (put_other i j due dues differs)
    ]

-- what sendings leave of a link as it is
pub record Went (l x : Link) : Type 0 where
  pub port : x.port ≡ l.port
  pub waits : x.queue.waits ≡ l.queue.waits
  pub partner : x.partner ≡ l.partner
  pub segsize : x.segsize ≡ l.segsize
  pub ran : x.queue.ran ≡ l.queue.ran
  pub accepted : x.queue.accepted ≡ l.queue.accepted
  pub leaves : Leaves l.segments x.segments

pub went_itself : (l : Link) → Went l l
went_itself l = assumption

pub went_on : (l x y : Link) (m : NspValue) → Went l x → Goes x m y → Went l y
went_on l x y m w g =
    let s = goes_shape x y m g in
    let leaves : Leaves l.segments s.segments = record {
      received = s.leaves.received ∙ w.leaves.received;
      delivered = s.leaves.delivered ∙ w.leaves.delivered;
      passed = s.leaves.passed ∙ w.leaves.passed;
    } in
    subst (Went l) (sym s.is) (assumption (leaves, w))

went_all : (node peer : ℕ) (packets : List Carried) (l x y : Link) → Went l x → CanGo node peer packets x (λ z. z ≡ y) → Went l y
went_all node peer [] l x y w can = subst (Went l) can w
went_all node peer (packet ∷ packets) l x y w can =
    went_all node peer packets l can.1 y (went_on l x can.1 packet.message w can.2) can.3

pub went_can : (node peer : ℕ) (packets : List Carried) (l y : Link) → CanGo node peer packets l (λ z. z ≡ y) → Went l y
went_can node peer packets l y can = went_all node peer packets l l y (went_itself l) can

pub went_use : (l x : Link) → Went l x → in_use With x ≡ in_use With l
went_use l x w = ap₂ (λ (waits : Option Phase) (port : Port). in_use With (record l { port = port; queue = record l.queue { waits = waits } }))
    w.waits w.port

pub went_node : (l x : Link) → Went l x → node_port x ≡ node_port l
went_node l x w = ap₂ (λ (waits : Option Phase) (port : Port). node_port (record l { port = port; queue = record l.queue { waits = waits } }))
    w.waits w.port

pub record IsDue (node peer : ℕ) (l : Link) (due : Due) : Type 0 where
  pub can : CanGo node peer due.packets l (λ x. x ≡ due.link)
  pub early : AreEarly (phase_of l) due.packets

-- where nothing is due the link is as it stands
pub none_link : (node peer : ℕ) (l : Link) (due : Due) → IsDue node peer l due → due.packets ≡ [] → l ≡ due.link
none_link node peer l due is none = subst (λ (ps : List Carried). CanGo node peer ps l (λ x. x ≡ due.link)) none is.can

pub record AreDue (s : machine.Links) (dues : ℕ → Due) : Type 0 where
  pub each : (i : ℕ) (l : Link) → slice_get s.links i ≡ Some l → IsDue s.node s.peer l (dues i)
  pub beyond : (i : ℕ) → slice_get s.links i ≡ None → (dues i).packets ≡ []

-- ---- the links of the machine

pub record AreSane (s : machine.Links) : Type 0 where
  pub unique : IsUnique s
  pub each : (i : ℕ) (l : Link) → slice_get s.links i ≡ Some l → Sane l
  pub not_zero : (i : ℕ) (l : Link) → slice_get s.links i ≡ Some l → is_at l.port.own 0 ≡ false
