-- A message that the machine sends was composed, or is now, and goes.
use Rattle.dna_queues.proofs.Prelude.{◌≡◌, ℕ, Bool, true, false, ◌&&◌, ◌==◌, cond, ◌⊎◌, inl, inr, Option, Some, None, List, [], ◌∷◌, refl, sym, ap}
use Rattle.dna_queues.proofs.Prelude.{◌∙◌, subst, eqb-true, Ok, cases_eq, IsInRange, With, Carried, are_same, Sent, message_sent, TrueSegments}
use Rattle.dna_queues.proofs.Prelude.{Numbers, true_segments, SentMessage, LinkRecord, Sends, Node, Takes, First, Behind, waiting, link_it_is_for}
use Rattle.dna_queues.proofs.Prelude.{link_it_is_of, MakesStep, SendsComposed, MadeByHidden, Makes}
use Rattle.dna_links.specs.TrueLinks as machine
use Rattle.dna_queues.proofs.{Goes.Link, Lists.takes_first, Lists.takes_other, LinkLists.still_set, LinkLists.IsSet, Beside.eqb-other, Shapes.Shape}
use Rattle.dna_queues.proofs.{Shapes.goes_shape, Turns.sane_on, Early.CanGo, Hide.hide}
use Rattle.dna_queues.proofs.MachineSends.{is_of_link, SendsOf, sends_of}
use Rattle.dna_queues.proofs.Dues.{Due, put, put_here, put_other, AreDue, AreSane}
use Rattle.dna_queues.proofs.Timed.{Awaits, packets_of, Timed}
use Rattle.dna_queues.proofs.Prepared.{prepare_set, set_timed, set_sane}

-- What is composed of each link before these records so that hidden steps make them
pub record Sound (s : machine.Links) (records : List LinkRecord) : Type 0 where
  pub dues : ℕ → Due
  pub due : AreDue s dues
  pub made : (n : Node) → Timed s dues n → MadeByHidden n records

-- ---- the first that waits at a link

module _ (link_of : SentMessage → Option ℕ) where
  pub record TakesFirst (units : List SentMessage) (unit : SentMessage) (link : Option ℕ) : Type 0 where
    pub left : List SentMessage
    pub takes : Takes link_of units unit left
    pub is : are_same (link_of unit) link ≡ true

  pub takes_waiting : (units : List SentMessage) (unit : SentMessage) (rest : List SentMessage) (link : Option ℕ) →
      waiting link_of link units ≡ unit ∷ rest → TakesFirst units unit link
  takes_waiting [] unit rest link e = absurd cc
  takes_waiting (first ∷ units) unit rest link e =
      go (are_same (link_of first) link) refl e (λ f. takes_waiting units unit rest link f)
    where
      differs : (a b c : Option ℕ) → are_same a c ≡ false → are_same b c ≡ true → are_same a b ≡ false
      differs None b c e f = refl
      differs (Some x) None c e f = absurd cc
      differs (Some x) (Some y) None e f = absurd cc
      differs (Some x) (Some y) (Some z) e f = ap (λ (n : ℕ). n == x) (sym (eqb-true z y f)) ∙ e

      go : (b : Bool) → are_same (link_of first) link ≡ b → waiting link_of link (first ∷ units) ≡ unit ∷ rest →
          (waiting link_of link units ≡ unit ∷ rest → TakesFirst units unit link) → TakesFirst (first ∷ units) unit link
      go true same e further =
          let all : first ∷ waiting link_of link units ≡ unit ∷ rest = sym (waits same) ∙ e in
          let is : first ≡ unit = cc in
          subst (λ (u : SentMessage). TakesFirst (first ∷ units) u link) is
          (record { left = units; takes = First first units; is = same })
        where
          waits : are_same (link_of first) link ≡ true → waiting link_of link (first ∷ units) ≡ first ∷ waiting link_of link units
          waits e = ap (λ (b : Bool). cond b (first ∷ waiting link_of link units) (waiting link_of link units)) e
      go false other e further =
          let r = further (sym (ap (λ (b : Bool). cond b (first ∷ waiting link_of link units) (waiting link_of link units)) other) ∙ e) in
          record {
            left = first ∷ r.left;
            takes = Behind first unit units r.left (differs (link_of first) (link_of unit) link other r.is) r.takes;
            is = r.is;
          }

pub same_is : (o : Option ℕ) (i : ℕ) → are_same o (Some i) ≡ true → o ≡ Some i
same_is None i e = absurd cc
same_is (Some x) i e = ap Some (sym (eqb-true i x e))

record TakesPacket (units : List SentMessage) (packet : Carried) (rest : List Carried) (i : ℕ) : Type 0 where
  pub unit : SentMessage
  pub left : List SentMessage
  pub takes : Takes link_it_is_of units unit left
  pub packet_is : unit.packet ≡ packet
  pub number_is : link_it_is_of unit ≡ Some i
  pub left_is : packets_of (waiting link_it_is_of (Some i) left) ≡ rest

takes_packet : (units : List SentMessage) (packet : Carried) (rest : List Carried) (i : ℕ) →
    packets_of (waiting link_it_is_of (Some i) units) ≡ packet ∷ rest → TakesPacket units packet rest i
takes_packet units packet rest i e = go (waiting link_it_is_of (Some i) units) refl e
  where
    go : (w : List SentMessage) → waiting link_it_is_of (Some i) units ≡ w → packets_of w ≡ packet ∷ rest → TakesPacket units packet rest i
    go [] is e = absurd cc
    go (unit ∷ others) is e =
        let t = takes_waiting link_it_is_of units unit others (Some i) is in
        let first = takes_first link_it_is_of units t.left unit (Some i) t.takes t.is in
        let both : unit ∷ waiting link_it_is_of (Some i) t.left ≡ unit ∷ others = sym first ∙ is in
        let left : waiting link_it_is_of (Some i) t.left ≡ others = cc in
        let packets : packets_of others ≡ rest = cc in
        record {
          unit = unit;
          left = t.left;
          takes = t.takes;
          packet_is = cc;
          number_is = same_is (link_it_is_of unit) i t.is;
          left_is = ap packets_of left ∙ packets;
        }

-- ---- the record

-- a sending leaves what waits as it is
awaits_on : (l x : Link) (kept : List SentMessage) → Shape l x → Awaits l kept → Awaits x kept
awaits_on l x kept shape a = subst (λ (y : Link). Awaits y kept) (sym shape.is) (record { live = a.live; over = a.over })

module _ (s : machine.Links) (sane : AreSane s) (later : List LinkRecord) where
  pub sent_sound : (packet : Carried) (made : Sent TrueSegments Numbers) → is_of_link packet.message ≡ true → IsInRange packet.message →
      (packet.src == s.node && packet.dst == s.peer) ≡ true → message_sent With true_segments s packet.message ≡ Ok made →
      (AreSane made.links → Sound made.links later) → Sound s (Sends packet ∷ later)
  sent_sound packet made is small may e rest = go (sends_of s sane.each made packet.message is e).set
    where
      d : SendsOf s sane.each packet.message made.links
      d = sends_of s sane.each made packet.message is e

      shape : Shape d.link d.further
      shape = goes_shape d.link d.further packet.message d.goes

      own : d.further.port.own ≡ d.link.port.own
      own = ap (λ (x : Link). x.port.own) shape.is

      left_sane : AreSane made.links
      left_sane = set_sane s sane d.number d.link d.there made.links d.further d.set own
          (sane_on d.link (sane.each d.number d.link d.there) d.further shape)

      go : IsSet s made.links d.number d.further → Sound s (Sends packet ∷ later)
      go set =
          let r = rest left_sane in
          let i = d.number in
          let units = (r.dues i).packets in
          let due = r.due.each i d.further d.set.here in
          let can = subst (λ (m : ℕ). CanGo m s.peer units d.further (λ x. x ≡ (r.dues i).link)) set.node
          (subst (λ (m : ℕ). CanGo made.links.node m units d.further (λ x. x ≡ (r.dues i).link)) set.peer due.can) in
          let p = prepare_set s sane i d.link d.there made.links d.further d.set r.dues r.due (packet ∷ units) (λ x. x ≡ (r.dues i).link)
          (record { goes = may; small = small }, d.further, d.goes, can) in
          record {
            dues = p.before;
            due = p.due;
            made = λ n t. p.on n t (Sends packet ∷ later) (λ x same next u. taken r x same next u);
          }
        where
          taken : (r : Sound made.links later) (x : Link) → x ≡ (r.dues d.number).link → (next : Node) →
              Timed s (put d.number (record { packets = packet ∷ (r.dues d.number).packets; link = x }) r.dues) next →
              MadeByHidden next (Sends packet ∷ later)
          taken r x same next u =
              let i = d.number in
              let mine : Due = record { packets = packet ∷ (r.dues i).packets; link = x } in
              let here = put_here i i mine r.dues refl in
              let k = takes_packet next.composed packet (r.dues i).packets i (u.composed i ∙ ap (λ (a : Due). a.packets) here) in
              Makes next (record next { composed = k.left }) (Sends packet) later
              (subst (λ (q : Carried). MakesStep next (Sends q) (record next { composed = k.left })) k.packet_is
              (SendsComposed k.unit k.left k.takes))
              (r.made (record next { composed = k.left })
              (set_timed s sane i d.link d.there made.links d.further d.set r.dues r.due mine next (record next { composed = k.left }) u
              (still_set _ _ _ (u.all i d.link d.there ∙ ap (λ (a : Due). Some (hide a.link)) here ∙ ap (λ (y : Link). Some (hide y)) same)) u.kept
              (awaits_on d.link d.further _ shape (subst (λ (o : Option ℕ). Awaits d.link (waiting link_it_is_for o next.kept)) (sym own)
              (u.awaits i d.link d.there)))
              (λ j y differs at_y. u.awaits j y at_y)
              (λ j. composed j k (cases_eq j i) mine (u.composed j))))
            where
              composed : (j : ℕ) (k : TakesPacket next.composed packet (r.dues d.number).packets d.number) → (j ≡ d.number) ⊎ (j ≡ d.number → ⊥) →
                  (mine : Due) → packets_of (waiting link_it_is_of (Some j) next.composed) ≡ (put d.number mine r.dues j).packets →
                  packets_of (waiting link_it_is_of (Some j) k.left) ≡ (r.dues j).packets
              composed j k (inl e) mine before = subst (λ (m : ℕ). packets_of (waiting link_it_is_of (Some m) k.left) ≡ (r.dues m).packets) (sym e)
                  k.left_is
              composed j k (inr differs) mine before =
                  sym (ap packets_of (takes_other link_it_is_of next.composed k.left k.unit (Some j) k.takes
                  (ap (λ (o : Option ℕ). are_same o (Some j)) k.number_is ∙ eqb-other j d.number differs)))
                  ∙ before ∙ ap (λ (a : Due). a.packets) (put_other d.number j mine r.dues differs)
