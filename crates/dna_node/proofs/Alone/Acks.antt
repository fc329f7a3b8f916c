-- What a right partner acknowledges is never wrong: the numbers that its words have lie near those of the link that acts on them, and none above the
-- highest given.
use Rattle.std.proofs.Common.{◌≡◌, ℕ, ◌-◌, ◌<◌, ◌≤◌, ◌⊎◌, inl, inr, Bool, true, false, ◌&&◌, ◌||◌, not, eqb, ltb, leb, cond, Option, Some, None, List}
use Rattle.std.proofs.Common.{[], ◌∷◌, map, length, drop, Result, Ok, refl, sym, ap, ap₂, ◌∙◌, arith, le-leb, length-drop}
use Rattle.std.specs.Prelude.{slice_get}
use Rattle.std.proofs.lemmas.Bool.{cases_lt, and_parts}
use Rattle.dna_packet.specs.declared.ack_word.AckWord.{AckWord}
use Rattle.dna_packet.specs.Nsp.{NspValue, DataSegment, DataAck}
use Rattle.dna_station.specs.declared.link_refusal.LinkRefusal.{LinkRefusal}
use Rattle.dna_station.specs.declared.link_refusal.LinkRefusal.TheVariants.{WrongNode, WrongAck, CrossedLink}
use Rattle.dna_station.specs.declared.refusal.StepRefusal.{StepRefusal}
use Rattle.dna_station.specs.declared.refusal.StepRefusal.TheVariants.{Links as OfLinks}
use Rattle.dna_links.specs.declared.queue.Queues.{Queues}
use Rattle.dna_links.specs.declared.queue.Queues.TheVariants.{Without, With}
use Rattle.dna_links.specs.Queues.{has_waiting}
use Rattle.dna_links.specs.declared.port.LinkTest.{LinkTest}
use Rattle.dna_links.specs.declared.port.LinkTest.TheVariants.{ActedOn}
use Rattle.dna_links.specs.Segmentation.{Piece}
use Rattle.dna_links.specs.LookUps.{passes, is_live, is_connected, has_both}
use Rattle.dna_links.specs.SegmentBook.{REACH, wire, distance, is_of_data}
use Rattle.dna_links.specs.Links.{LinkOf, Carried, LinkTruth, check, number_of, on_link, at_number, with_link}
use Rattle.dna_links.specs.Arriving.{of_partner, is_of_pair, message_arrived}
use Rattle.dna_links.specs.TrueSegments.{TrueSegments, Numbers, highest_given, acknowledged_through, numbers_of}
use Rattle.dna_links.specs.TrueLinks.{Links}
use Rattle.dna_links.specs.WireSegments.{LinkVariables, WireSegments, acknowledged_by, acknowledged_to, wire_segments}
use Rattle.dna_links.specs.WireLinks.{WireLinks, wire_links_arrived}
use Rattle.dna_links.specs.CutSegments.{cut, IsOrdered, data_numbers, Spells, AckIsNear, AcksAreNear}
use Rattle.dna_links.specs.CutLinks.{cut_link, cut_links, AreOrdered, ArrivesNear}
use Rattle.dna_links.proofs.Tables.Numbers.{distance_ahead, wire-low}
use Rattle.dna_links.proofs.Cut.SegmentsArriving.{takes_acks_same, all_ordered}
use Rattle.dna_links.proofs.Cut.LookUps.{with_link_same}
use Rattle.dna_links.proofs.Cut.User.{live_if, live_segments}
use Rattle.dna_links.proofs.Cut.LateLinks.{kept_segments}
use Rattle.dna_node.specs.Accusing.{may_acknowledge, may_acknowledge_all, wrong_words, wrong_acks, wrong_message}

-- ---- one number

or_right : (a b : Bool) → b ≡ true → (a || b) ≡ true
or_right true b e = refl
or_right false b e = e

or_left : (a b : Bool) → a ≡ true → (a || b) ≡ true
or_left true b e = refl
or_left false b e = absurd cc

module _ (f : TrueSegments) (ordered : IsOrdered f) where
  module _ (n : ℕ) (near : AckIsNear f n) where
    -- it lies at or above the highest acknowledged
    ahead : f.acknowledged ≤ n → leb (distance (wire f.acknowledged) (wire n)) (length (drop f.acknowledged f.given)) ≡ true
    ahead l =
        let h = length-drop f.acknowledged f.given in let few = ordered.few in let most = near.most in
        let d = distance_ahead f.acknowledged n l (omega arith) in
        le-leb (distance (wire f.acknowledged) (wire n)) (length (drop f.acknowledged f.given)) (omega arith)

    -- or it is an earlier one
    module _ (l : n < f.acknowledged) where
      back : distance (wire n) (wire f.acknowledged) ≡ f.acknowledged - n
      back = let least = near.least in distance_ahead n f.acknowledged (omega arith) least

      near_back : leb (distance (wire n) (wire f.acknowledged)) REACH ≡ true
      near_back = let d = back in let least = near.least in le-leb (distance (wire n) (wire f.acknowledged)) REACH (omega arith)

      above_0 : (leb REACH (highest_given f) || leb (distance (wire n) (wire f.acknowledged)) (wire f.acknowledged)) ≡ true
      above_0 = by_given (cases_lt (highest_given f) REACH)
        where
          by_given : (highest_given f < REACH) ⊎ (REACH ≤ highest_given f) →
              (leb REACH (highest_given f) || leb (distance (wire n) (wire f.acknowledged)) (wire f.acknowledged)) ≡ true
          by_given (inl few) =
              let d = back in let given = ordered.given in let low = wire-low f.acknowledged (omega arith) in
              or_right (leb REACH (highest_given f)) (leb (distance (wire n) (wire f.acknowledged)) (wire f.acknowledged))
              (le-leb (distance (wire n) (wire f.acknowledged)) (wire f.acknowledged) (omega arith))
          by_given (inr many) =
              or_left (leb REACH (highest_given f)) (leb (distance (wire n) (wire f.acknowledged)) (wire f.acknowledged))
              (le-leb REACH (highest_given f) many)

    pub may : may_acknowledge (cut f).gave_many (cut f).variables (wire n) ≡ true
    may = by_place (cases_lt n f.acknowledged)
      where
        by_place : (n < f.acknowledged) ⊎ (f.acknowledged ≤ n) → may_acknowledge (cut f).gave_many (cut f).variables (wire n) ≡ true
        by_place (inl l) =
            or_right (leb (distance (wire f.acknowledged) (wire n)) (length (drop f.acknowledged f.given)))
            (leb (distance (wire n) (wire f.acknowledged)) REACH &&
            (leb REACH (highest_given f) || leb (distance (wire n) (wire f.acknowledged)) (wire f.acknowledged)))
            (ap₂ (λ (a b : Bool). a && b) (near_back l) (above_0 l))
        by_place (inr l) =
            or_left (leb (distance (wire f.acknowledged) (wire n)) (length (drop f.acknowledged f.given)))
            (leb (distance (wire n) (wire f.acknowledged)) REACH &&
            (leb REACH (highest_given f) || leb (distance (wire n) (wire f.acknowledged)) (wire f.acknowledged)))
            (ahead l)

-- ---- all words

given_by : (b : Bool) (f : TrueSegments) (n : ℕ) → (cond b (record f { acknowledged = n }) f).given ≡ f.given
given_by true f n = refl
given_by false f n = refl

given_same : (f : TrueSegments) (n : ℕ) → (acknowledged_through f n).given ≡ f.given
given_same f n = given_by (ltb f.acknowledged n && leb n (highest_given f)) f n

-- this number alone
abbrev alone : ℕ → TrueSegments → Numbers
alone n f = numbers_of 0 (record { numbers = n ∷ []; last = 0 }) f f

first_of : {x y : ℕ} {xs ys : List ℕ} → x ∷ xs ≡ y ∷ ys → x ≡ y
first_of e = ap (λ (l : List ℕ). head l) e
  where
    head : List ℕ → ℕ
    head [] = 0
    head (z ∷ zs) = z

behind_of : {x y : ℕ} {xs ys : List ℕ} → x ∷ xs ≡ y ∷ ys → xs ≡ ys
behind_of e = ap (λ (l : List ℕ). drop 1 l) e

module _ (word : AckWord) (words : List AckWord) where
  -- a word of this subchannel
  module _ (f : TrueSegments) (ordered : IsOrdered f) (n : ℕ) (near : AckIsNear f n) (spelled : word.number ≡ wire n)
      (of_data : is_of_data word.qualifier ≡ true) where
    of_one : data_numbers (word ∷ []) ≡ map wire (n ∷ [])
    of_one = ap (λ (b : Bool). cond b (word.number ∷ []) []) of_data ∙ ap (λ (k : ℕ). k ∷ []) spelled

    left_by : (cut (acknowledged_through f n)).variables ≡ acknowledged_by (cut f).variables word
    left_by = ap (λ (w : WireSegments). w.variables) (takes_acks_same (word ∷ []) (alone n f) f ordered of_one (near, tt))

    word_right : (many : Bool) → many ≡ (cut f).gave_many → may_acknowledge_all many words (cut (acknowledged_through f n)).variables ≡ true →
        may_acknowledge_all many (word ∷ words) (cut f).variables ≡ true
    word_right many same others =
        ap₂ (λ (a b : Bool). a && b)
        (or_right (not (is_of_data word.qualifier)) (may_acknowledge many (cut f).variables word.number)
        (ap₂ (λ (m : Bool) (k : ℕ). may_acknowledge m (cut f).variables k) same spelled ∙ may f ordered n near))
        (ap (may_acknowledge_all many words) (sym left_by) ∙ others)

  -- one of the other is passed over
  word_passed : (many : Bool) (k : LinkVariables) → is_of_data word.qualifier ≡ false → may_acknowledge_all many words k ≡ true →
      may_acknowledge_all many (word ∷ words) k ≡ true
  word_passed many k other others =
      ap₂ (λ (a b : Bool). a && b)
      (or_left (not (is_of_data word.qualifier)) (may_acknowledge many k word.number) (ap not other))
      (ap (λ (b : Bool). may_acknowledge_all many words
      (acknowledged_to (b && leb (distance k.acknowledged word.number) (length k.outstanding)) k word.number)) other ∙ others)

module _ (word : AckWord) (words : List AckWord) (many : Bool)
    (later : (f : TrueSegments) (numbers : List ℕ) → IsOrdered f → Spells words numbers → AcksAreNear f numbers → many ≡ (cut f).gave_many →
    may_acknowledge_all many words (cut f).variables ≡ true) (f : TrueSegments) (ordered : IsOrdered f) (same : many ≡ (cut f).gave_many) where
  by_word : (b : Bool) → is_of_data word.qualifier ≡ b → (numbers : List ℕ) →
      cond b (word.number ∷ data_numbers words) (data_numbers words) ≡ map wire numbers → AcksAreNear f numbers →
      may_acknowledge_all many (word ∷ words) (cut f).variables ≡ true
  by_word true e [] spells near = absurd cc
  by_word true e (n ∷ ns) spells near =
      word_right word words f ordered n near.0 (first_of spells) e many same
      (later (acknowledged_through f n) ns (all_ordered (n ∷ []) f ordered (near.0, tt)) (behind_of spells) near.1
      (same ∙ ap (λ (l : List Piece). leb REACH (length l)) (sym (given_same f n))))
  by_word false e numbers spells near = word_passed word words many (cut f).variables e (later f numbers ordered spells near same)

words_right : (many : Bool) (words : List AckWord) (f : TrueSegments) (numbers : List ℕ) → IsOrdered f → Spells words numbers →
    AcksAreNear f numbers →
    many ≡ (cut f).gave_many → may_acknowledge_all many words (cut f).variables ≡ true
words_right many [] f numbers ordered spells near same = refl
words_right many (word ∷ words) f numbers ordered spells near same =
    by_word word words many (λ g ns o sp ne sa. words_right many words g ns o sp ne sa) f ordered same (is_of_data word.qualifier) refl
    numbers spells near

-- ---- the link that acts on them

-- three ways to go on, which belong together at each link
module _ {A B C : Type 0} (P : A → B → C → Type 0) (test : LinkTest) (s : WireLinks) (a : A) (b : B) (c : C) (f : ℕ → LinkOf WireSegments → A)
    (g : ℕ → LinkOf WireSegments → B) (h : ℕ → LinkOf WireSegments → C) (none : P a b c)
    (one : (n : ℕ) (l : LinkOf WireSegments) → P (f n l) (g n l) (h n l)) where
  on_each : (n : ℕ) (o : Option (LinkOf WireSegments)) → P (on_link n o a f) (on_link n o b g) (on_link n o c h)
  on_each n None = none
  on_each n (Some l) = one n l

  at_each : (o : Option ℕ) → P (at_number s.links o a f) (at_number s.links o b g) (at_number s.links o c h)
  at_each None = none
  at_each (Some n) = on_each n (slice_get s.links n)

  with_each : P (with_link test s a f) (with_link test s b g) (with_link test s c h)
  with_each = at_each (number_of test s)

-- where the first is good, the second accuses nobody
abbrev Follows : Result WireLinks LinkRefusal → Option StepRefusal → Type 0
Follows x y = (links : WireLinks) → x ≡ Ok links → y ≡ None

-- a live link keeps its segments
cut_live : (queues : Queues) (l : LinkOf TrueSegments) → is_live l.port.phase ≡ true → (cut_link queues l).segments ≡ cut l.segments
cut_live Without l live = live_segments l live
cut_live With l live = kept_segments l (or_left (is_live l.port.phase) (has_waiting l.queue.waits l.queue.said) live)

module _ (queues : Queues) (s : Links) (ordered : AreOrdered s) (truth : LinkTruth Numbers) where
  abbrev tagged : LinkTruth (Unit {0})
  tagged = record { tag = truth.tag; known = tt }

  -- what the words are asked where the rule on partners lets the message pass
  abbrev asked : List AckWord → ℕ → LinkOf WireSegments → Option StepRefusal
  asked acks n l = cond (is_of_pair n l.partner truth.tag) (wrong_words acks l.segments) None

  abbrev Same : Result WireLinks LinkRefusal → Option StepRefusal → Option StepRefusal → Type 0
  Same x y z = (links : WireLinks) → x ≡ Ok links → y ≡ z

  by_partner : (b : Bool) (after : WireLinks) (y : Option StepRefusal) → Same (check b CrossedLink (Ok after)) y (cond b y None)
  by_partner true after y = λ links e. refl
  by_partner false after y = λ links e. absurd cc

  none_asked : (b : Bool) (y : Option StepRefusal) → (b ≡ true → y ≡ None) → None ≡ cond b y None
  none_asked true y right = sym (right refl)
  none_asked false y right = refl

  abbrev none_if : Bool → Option StepRefusal
  none_if b = cond b None (Some (OfLinks WrongAck))

  acks_right : (own far : ℕ) (acks : List AckWord) (made : ℕ → LinkOf WireSegments → WireLinks) →
      ((n : ℕ) (l : LinkOf TrueSegments) → slice_get s.links n ≡ Some l → passes (ActedOn own far) l.port ≡ true →
      is_of_pair n l.partner truth.tag ≡ true → Spells acks truth.known.acknowledgements × AcksAreNear l.segments truth.known.acknowledgements) →
      Follows (with_link (ActedOn own far) (cut_links queues s) (Ok (cut_links queues s))
      (λ n l. check (of_partner (is_of_pair n l.partner truth.tag)) CrossedLink (Ok (made n l)))) (wrong_acks own far acks (cut_links queues s))
  acks_right own far acks made near =
      λ links e. with_each Same (ActedOn own far) (cut_links queues s) (Ok (cut_links queues s)) None None
      (λ n l. check (of_partner (is_of_pair n l.partner truth.tag)) CrossedLink (Ok (made n l)))
      (λ n l. wrong_words acks l.segments) (asked acks) (λ links e. refl)
      (λ n l. by_partner (is_of_pair n l.partner truth.tag) (made n l) (wrong_words acks l.segments)) links e
      ∙ sym (with_link_same queues nobody (ActedOn own far) s tt None (λ n l. tt) (asked acks) (λ none. refl) all_right)
    where
      nobody : Unit {0} → Option StepRefusal
      nobody x = None

      all_right : (n : ℕ) (l : LinkOf TrueSegments) → slice_get s.links n ≡ Some l → passes (ActedOn own far) l.port ≡ true →
          None ≡ asked acks n (cut_link queues l)
      all_right n l there here =
          let live = live_if is_connected refl l.port.phase (and_parts (is_connected l.port.phase) (has_both l.port own far) here).0 in
          none_asked (is_of_pair n l.partner truth.tag) (wrong_words acks (cut_link queues l).segments)
          (λ e. ap (wrong_words acks) (cut_live queues l live)
          ∙ ap none_if (words_right (cut l.segments).gave_many acks l.segments truth.known.acknowledgements (ordered n l there).segments
          (near n l there here e).0 (near n l there here e).1 refl))

  message_right : (m : NspValue) → ArrivesNear of_partner s m truth →
      Follows (message_arrived queues wire_segments of_partner (cut_links queues s) m tagged) (wrong_message (cut_links queues s) m)
  message_right (DataSegment segment) near =
      acks_right segment.dstaddr segment.srcaddr segment.acks _
      (λ n l there here e. let m = near n l there here e in (m.0, m.2))
  message_right (DataAck dst src acks) near =
      acks_right dst src acks _ (λ n l there here e. let m = near n l there here e in (m.0, m.1))
  message_right m near = λ links e. refl

  goes_right : (b : Bool) (r : Result WireLinks LinkRefusal) (y : Option StepRefusal) → Follows r y → Follows (check b WrongNode r) y
  goes_right true r y right = right
  goes_right false r y right = λ links e. absurd cc

  -- a packet that is taken, and that the links let pass
  pub packet_right : (packet : Carried) → ArrivesNear of_partner s packet.message truth →
      Follows (wire_links_arrived queues of_partner (cut_links queues s) packet truth.tag) (wrong_message (cut_links queues s) packet.message)
  packet_right packet near =
      goes_right (eqb packet.src s.peer && eqb packet.dst s.node)
      (message_arrived queues wire_segments of_partner (cut_links queues s) packet.message tagged)
      (wrong_message (cut_links queues s) packet.message) (message_right packet.message near)
