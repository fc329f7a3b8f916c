-- Where an address is given, or a DC has it, what waits for it is acted on before; and its link then has nothing more to say of what is past.
use Rattle.dna_queues.proofs.Prelude.{◌≡◌, ℕ, Bool, true, false, ◌&&◌, Option, Some, None, List, [], ◌∷◌, refl, sym, ap, ap₂, ◌∙◌, subst, slice_get}
use Rattle.dna_queues.proofs.Prelude.{same_Some, Phase, Called, Ended, Port, LinkTest, HasAddress, CalledBy, passes, is_in, is_live, is_at}
use Rattle.dna_queues.proofs.Prelude.{Carried, number_of, with_link, changed, port_of_waiting, SentMessage, IsFound, looked, Links, Node, waiting}
use Rattle.dna_queues.proofs.Prelude.{link_it_is_for, link_it_is_of, IsFree, false_from_ne_true}
use Rattle.dna_links.specs.TrueLinks as machine
use Rattle.dna_queues.proofs.{Facts.dead_phase, Facts.by_test, Acting.ended_late, Turns.Sane, Early.CanGo, Early.AreEarly, Hide.LateLink, Hide.hide}
use Rattle.dna_queues.proofs.{Prepared.due_none, Prepared.set_timed_but}
use Rattle.dna_queues.proofs.Goes.{Link, phase_of, at_node, node_port, node_own, at_node_some}
use Rattle.dna_queues.proofs.LinkLists.{IsSet, set_changed, none_passes, number_same, there_too}
use Rattle.dna_queues.proofs.Dues.{put_packets, none_link, Due, put, put_here, Went, went_node, AreDue, AreSane}
use Rattle.dna_queues.proofs.Timed.{Awaits, kept_as, is_end, packets_of, Timed, unique_hidden}
use Rattle.dna_queues.proofs.Pending.{AreGood, GoodFor, then_ended, Flushed, flush}

-- the link of the node as what all would come to has it
abbrev pub stripped : Link → Link → LateLink
stripped l x = record (hide x) { port = l.port }

module _ (l x : Link) (sane : Sane l) (went : Went l x) where
  pub good_link : (kept : List SentMessage) → Awaits l kept → GoodFor (hide x) kept
  good_link [] a = tt
  good_link (unit ∷ units) a = λ live. go live (at_node l.queue.waits) refl
    where
      go : is_live (node_port x).phase ≡ true → (w : Option Phase) → at_node l.queue.waits ≡ w → is_end unit.packet.message (node_port x) ≡ true
      go live None e =
          let node_is = went_node l x went ∙ ap (λ (w : Option Phase). port_of_waiting w l.port) e in
          let never : unit ∷ units ≡ [] = a.live (ap (λ (p : Port). is_live p.phase) (sym node_is) ∙ live) in absurd cc
      go live (Some p) e = ap (is_end unit.packet.message) (went_node l x went) ∙ a.over p e

  pub stripped_is : (kept : List SentMessage) → Awaits l kept → then_ended kept (hide x) ≡ stripped l x
  stripped_is kept a = go (at_node l.queue.waits) refl kept a
    where
      of_port : (p : Port) → node_port x ≡ p → p ≡ l.port → hide x ≡ stripped l x
      of_port p node_is same = ap (λ (q : Port). record (hide x) { port = q }) (node_is ∙ same)

      ended : (p : Port) → node_port x ≡ p → record p { phase = Ended } ≡ l.port → ended_late (hide x) ≡ stripped l x
      ended p node_is same = ap (λ (q : Port). record (hide x) { port = q }) (ap (λ (q : Port). record q { phase = Ended }) node_is ∙ same)

      over : (unit : SentMessage) (kept : List SentMessage) → Awaits l (unit ∷ kept) → record l.port { phase = Ended } ≡ l.port
      over unit kept a = ap (λ (p : Phase). record l.port { phase = p }) (sym (dead_phase l.port.phase (false_from_ne_true _ (λ e.
          let never : unit ∷ kept ≡ [] = a.live e in absurd cc))))

      go : (w : Option Phase) → at_node l.queue.waits ≡ w → (kept : List SentMessage) → Awaits l kept → then_ended kept (hide x) ≡ stripped l x
      go None e [] a = of_port l.port (went_node l x went ∙ ap (λ (w : Option Phase). port_of_waiting w l.port) e) refl
      go None e (unit ∷ units) a =
          ended l.port (went_node l x went ∙ ap (λ (w : Option Phase). port_of_waiting w l.port) e) (over unit units a)
      go (Some p) e [] a = absurd (a.over p e)
      go (Some p) e (unit ∷ units) a =
          ended (record l.port { phase = p }) (went_node l x went ∙ ap (λ (w : Option Phase). port_of_waiting w l.port) e)
          (ap (λ (q : Phase). record l.port { phase = q }) (sym (sane.waits p (at_node_some l.queue.waits p e)).0))

-- a link of which nothing waits
pub awaits_nothing : (l : Link) (kept : List SentMessage) → l.queue.waits ≡ None → kept ≡ [] → Awaits l kept
awaits_nothing l kept none nothing = record {
  live = λ e. nothing;
  over = λ p e. let never : None ≡ Some p = sym none ∙ at_node_some l.queue.waits p e in absurd cc;
}

pub no_packets : (units : List SentMessage) → packets_of units ≡ [] → units ≡ []
no_packets [] e = refl
no_packets (unit ∷ units) e = absurd cc

pub called_use : (far : ℕ) (l : Link) → Sane l → passes (CalledBy far) (node_port l) ≡ passes (CalledBy far) l.port
called_use far l sane = go l.queue.waits refl
  where
    over : (p : Phase) → l.queue.waits ≡ Some p → is_in Called p ≡ false → passes (CalledBy far) (record l.port { phase = p })
        ≡ passes (CalledBy far) l.port
    over p e not_called =
        ap (λ (b : Bool). b && is_at l.port.far far) not_called
        ∙ sym (ap (λ (q : Phase). is_in Called q && is_at l.port.far far) (sane.waits p e).0)

    go : (w : Option Phase) → l.queue.waits ≡ w → passes (CalledBy far) (port_of_waiting (at_node w) l.port) ≡ passes (CalledBy far) l.port
    go None e = refl
    go (Some Called) e = refl
    go (Some p) e = over p e refl

-- ---- the node

module _ (s : machine.Links) (sane : AreSane s) where
  pub good_timed : (dues : ℕ → Due) (n : Node) → Timed s dues n → AreGood n.links n.kept
  good_timed dues n t i h at =
      let l = there_too s.links n.links.links i h (sym t.size) at in
      let went = t.went i l.0 l.1 in
      let same : hide (dues i).link ≡ h = same_Some _ h (sym (t.all i l.0 l.1) ∙ at) in
      let own : (hide (dues i).link).port.own ≡ l.0.port.own = node_own (dues i).link ∙ ap (λ (p : Port). p.own) went.port in
      subst (λ (g : LateLink). GoodFor g (waiting link_it_is_for g.port.own n.kept)) same
      (subst (λ (o : Option ℕ). GoodFor (hide (dues i).link) (waiting link_it_is_for o n.kept)) (sym own)
      (good_link l.0 (dues i).link (sane.each i l.0 l.1) went _ (t.awaits i l.0 l.1)))

  pub flushed : (dues : ℕ → Due) (n : Node) → Timed s dues n → (address : ℕ) → Flushed n address
  flushed dues n t address =
      flush (waiting link_it_is_for (Some address) n.kept) n address refl (unique_hidden s sane dues n t)
      (kept_as s.node s.peer n.links.node n.links.peer n.kept (sym t.node) (sym t.peer) t.kept) (good_timed dues n t)

  module _ (dues : ℕ → Due) (n : Node) (t : Timed s dues n) (address : ℕ) (i : ℕ) (l : Link) (at : slice_get s.links i ≡ Some l) where
    hidden_own : (hide (dues i).link).port.own ≡ l.port.own
    hidden_own = node_own (dues i).link ∙ ap (λ (p : Port). p.own) (t.went i l at).port

    pub flushed_here : is_at l.port.own address ≡ true → slice_get (flushed dues n t address).next.links.links i ≡ Some (stripped l (dues i).link)
    flushed_here own =
        (flushed dues n t address).here i (hide (dues i).link) (t.all i l at) (ap (λ (o : Option ℕ). is_at o address) hidden_own ∙ own)
        ∙ ap (λ (o : Option ℕ). Some (then_ended (waiting link_it_is_for o n.kept) (hide (dues i).link))) hidden_own
        ∙ ap Some (stripped_is l (dues i).link (sane.each i l at) (t.went i l at) _ (t.awaits i l at))

    pub flushed_other : is_at l.port.own address ≡ false → slice_get (flushed dues n t address).next.links.links i ≡ Some (hide (dues i).link)
    flushed_other own =
        (flushed dues n t address).other i (hide (dues i).link) (t.all i l at) (ap (λ (o : Option ℕ). is_at o address) hidden_own ∙ own)

    pub flushed_awaits : is_at l.port.own address ≡ false →
        Awaits l (waiting link_it_is_for l.port.own (flushed dues n t address).next.kept)
    flushed_awaits own = subst (Awaits l) (sym ((flushed dues n t address).others l.port.own own)) (t.awaits i l at)

  module _ (dues : ℕ → Due) (n : Node) (t : Timed s dues n) (address : ℕ) where
    -- what a test finds then
    pub flushed_number : (test : LinkTest) → ((j : ℕ) (l : Link) → slice_get s.links j ≡ Some l → is_at l.port.own address ≡ false →
        passes test (node_port l) ≡ passes test l.port) → number_of test (flushed dues n t address).next.links ≡ number_of test s
    flushed_number test same =
        number_same (flushed dues n t address).next.links s ((flushed dues n t address).size ∙ t.size) test
        (λ j h l at_h at_l. by_test (is_at l.port.own address)
        (λ own. ap (λ (g : LateLink). passes test g.port) (same_Some h (stripped l (dues j).link) (sym at_h
        ∙ flushed_here dues n t address j l at_l own)))
        (λ own. ap (λ (g : LateLink). passes test g.port) (same_Some h (hide (dues j).link) (sym at_h
        ∙ flushed_other dues n t address j l at_l own)) ∙ ap (passes test) (went_node l (dues j).link (t.went j l at_l)) ∙ same j l at_l own))

    pub flushed_owner : number_of (HasAddress address) (flushed dues n t address).next.links ≡ number_of (HasAddress address) s
    flushed_owner = flushed_number (HasAddress address) (λ j l at own. ap (λ (o : Option ℕ). is_at o address) (node_own l))

  -- where no link has it nothing but what waits for it changes
  pub flushed_none : (dues : ℕ → Due) (n : Node) (t : Timed s dues n) (address : ℕ) → number_of (HasAddress address) s ≡ None →
      Timed s dues (flushed dues n t address).next
  flushed_none dues n t address missing =
      let f = flushed dues n t address in
      record {
        node = f.node ∙ t.node;
        peer = f.peer ∙ t.peer;
        size = f.size ∙ t.size;
        all = λ j x at. flushed_other dues n t address j x at (none_passes (HasAddress address) s missing j x at);
        went = t.went;
        kept = kept_as n.links.node n.links.peer s.node s.peer f.next.kept t.node t.peer f.kept;
        awaits = λ j x at. flushed_awaits dues n t address j x at (none_passes (HasAddress address) s missing j x at);
        composed = λ j. ap (λ (us : List SentMessage). packets_of (waiting link_it_is_of (Some j) us)) f.composed ∙ t.composed j;
      }

  -- nothing of the link that has the address waits to be sent
  pub says_no_more : (address : ℕ) (before : ℕ → Due) (n : Node) (t : Timed s before n) →
      ((i : ℕ) (l : Link) → IsFound (HasAddress address) s i l → (before i).packets ≡ []) → IsFree address (flushed before n t address).next
  says_no_more address before n t none = record {
    nothing_for = (flushed before n t address).none;
    nothing_of = λ number e. go number (sym (flushed_owner before n t address) ∙ e);
  }
    where
      go : (number : ℕ) → number_of (HasAddress address) s ≡ Some number →
          waiting link_it_is_of (Some number) (flushed before n t address).next.composed ≡ []
      go number e =
          looked (HasAddress address) s [] (λ i l. waiting link_it_is_of (Some i) (flushed before n t address).next.composed) _ refl
          (λ missing f. let never : None ≡ Some number = sym missing ∙ e in absurd cc)
          (λ i l found f. let same : i ≡ number = same_Some i number (sym found.found ∙ e) in
          ap₂ (λ (m : ℕ) (us : List SentMessage). waiting link_it_is_of (Some m) us) (sym same) (flushed before n t address).composed
          ∙ no_packets _ (t.composed i ∙ none i l found))

  -- ---- a step of the link with an address

  module _ (address : ℕ) (g : Link → Link) (left : machine.Links) (dues : ℕ → Due) (due : AreDue left dues) where
    pub record Addressed : Type 0 where
      pub before : ℕ → Due
      pub due_before : AreDue s before
      pub free : (n : Node) (t : Timed s before n) → IsFree address (flushed before n t address).next
      pub here : (n : Node) (t : Timed s before n) (i : ℕ) (l : Link) → IsFound (HasAddress address) s i l →
          slice_get (flushed before n t address).next.links.links i ≡ Some (stripped l l)
      pub timed : (n : Node) (t : Timed s before n) (links : Links) →
          (number_of (HasAddress address) s ≡ None → links ≡ (flushed before n t address).next.links) →
          ((i : ℕ) (l : Link) → IsFound (HasAddress address) s i l → IsSet (flushed before n t address).next.links links i (hide (g l))) →
          Timed left dues (record (flushed before n t address).next { links = links })

    pub addressed : with_link (HasAddress address) s s (λ i l. changed i (g l) s) ≡ left →
        ((i : ℕ) (l : Link) → IsFound (HasAddress address) s i l → (packets : List Carried) (P : Link → Type 0) →
        AreEarly (phase_of (g l)) packets → CanGo left.node left.peer packets (g l) P → packets ≡ []) →
        ((i : ℕ) (l : Link) → IsFound (HasAddress address) s i l → (kept : List SentMessage) → waiting link_it_is_for (Some address) kept ≡ [] →
        Awaits (g l) (waiting link_it_is_for (g l).port.own kept)) → Addressed
    addressed is none awaits =
        looked (HasAddress address) s s (λ i l. changed i (g l) s) left is
        (λ missing same. subst_none missing same)
        (λ i l found same. some i l found (subst (λ (x : machine.Links). IsSet s x i (g l)) same (set_changed s i l (g l) found.there)))
      where
        subst_none : number_of (HasAddress address) s ≡ None → s ≡ left → Addressed
        subst_none missing same = record {
          before = dues;
          due_before = subst (λ (x : machine.Links). AreDue x dues) (sym same) due;
          free = λ n t. says_no_more address dues n t (λ i l found. let never : None ≡ Some i = sym missing ∙ found.found in absurd cc);
          here = λ n t i l found. let never : None ≡ Some i = sym missing ∙ found.found in absurd cc;
          timed = λ n t links links_same others.
              subst (λ (x : machine.Links). Timed x dues (record (flushed dues n t address).next { links = links })) same
              (subst (λ (y : Links). Timed s dues (record (flushed dues n t address).next { links = y })) (sym (links_same missing))
              (flushed_none dues n t address missing));
        }

        some : (i : ℕ) (l : Link) → IsFound (HasAddress address) s i l → IsSet s left i (g l) → Addressed
        some i l found set = record {
          before = put i mine dues;
          due_before = due_none s sane i l found.there left (g l) set dues due;
          free = λ n t. says_no_more address (put i mine dues) n t (λ j x other. only j x other);
          here = λ n t j x other. here n t j x other;
          timed = λ n t links links_same others. timed n t links (others i l found);
        }
          where
            mine : Due
            mine = record { packets = []; link = l }

            same_number : (j : ℕ) (x : Link) → IsFound (HasAddress address) s j x → j ≡ i
            same_number j x other = same_Some j i (sym other.found ∙ found.found)

            only : (j : ℕ) (x : Link) → IsFound (HasAddress address) s j x → (put i mine dues j).packets ≡ []
            only j x other = ap (λ (d : Due). d.packets) (put_here i j mine dues (same_number j x other))

            here : (n : Node) (t : Timed s (put i mine dues) n) (j : ℕ) (x : Link) → IsFound (HasAddress address) s j x →
                slice_get (flushed (put i mine dues) n t address).next.links.links j ≡ Some (stripped x x)
            here n t j x other =
                flushed_here (put i mine dues) n t address j x other.there other.passed
                ∙ ap (λ (y : Link). Some (stripped x y)) (ap (λ (d : Due). d.link) (put_here i j mine dues (same_number j x other))
                ∙ same_Some l x (sym found.there ∙ ap (slice_get s.links) (sym (same_number j x other)) ∙ other.there))

            own_other : (j : ℕ) (x : Link) → (j ≡ i → ⊥) → slice_get s.links j ≡ Some x → is_at x.port.own address ≡ false
            own_other j x differs at = false_from_ne_true _ (λ e. differs (sane.unique j i x l at found.there address e found.passed))

            nothing : (dues i).packets ≡ []
            nothing = let d = due.each i (g l) set.here in none i l found (dues i).packets (λ x. x ≡ (dues i).link) d.early d.can

            link_is : g l ≡ (dues i).link
            link_is = none_link left.node left.peer (g l) (dues i) (due.each i (g l) set.here) nothing

            timed : (n : Node) (t : Timed s (put i mine dues) n) (links : Links) →
                IsSet (flushed (put i mine dues) n t address).next.links links i (hide (g l)) →
                Timed left dues (record (flushed (put i mine dues) n t address).next { links = links })
            timed n t links set_h =
                let f = flushed (put i mine dues) n t address in
                set_timed_but s sane i l found.there left (g l) set dues due mine f.next (record f.next { links = links })
                (record {
                  node = f.node ∙ t.node;
                  peer = f.peer ∙ t.peer;
                  size = f.size ∙ t.size;
                  all = λ j x differs at. flushed_other (put i mine dues) n t address j x at (own_other j x differs at);
                })
                (subst (λ (y : Link). IsSet f.next.links links i (hide y)) link_is set_h)
                (kept_as n.links.node n.links.peer s.node s.peer f.next.kept t.node t.peer f.kept)
                (awaits i l found f.next.kept f.none)
                (λ j x differs at. flushed_awaits (put i mine dues) n t address j x at (own_other j x differs at))
                (λ j. ap (λ (us : List SentMessage). packets_of (waiting link_it_is_of (Some j) us)) f.composed ∙ t.composed j
                ∙ put_packets i j mine dues (sym nothing))
