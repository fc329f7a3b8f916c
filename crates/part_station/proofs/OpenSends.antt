-- What a station sends of which not all is known, and what holds of it then.
use Rattle.std.proofs.Common.{◌≡◌, ℕ, zero, suc, ◌+◌, ◌-◌, ◌<◌, ◌≤◌, min, max, Bool, true, false, not, cond, eqb, leb, Option, Some, None}
use Rattle.std.proofs.Common.{List, [], ◌∷◌, ◌++◌, replicate, length, refl, sym, ap, subst, arith, ◌∙◌, ◌⊎◌, inl, inr, length-append}
use Rattle.std.specs.Prelude.{slice_get, slice_set}
use Rattle.std.specs.Str.{bytes_eq}
use Rattle.std.proofs.lemmas.Bool.{le-leb, eq-eqb, eqb-true, eqb-false, ne_eqb}
use Rattle.std.proofs.lemmas.Option.{same_Some, slice_get_within}
use Rattle.std.proofs.lemmas.Slice.Eq.{bytes_eq-Decides}
use Rattle.dna_links.specs.declared.tag.LinkTag.{LinkTag}
use Rattle.dna_links.proofs.Runs.Sides.{at_set}
use Rattle.ddcmp_msg.specs.Message.{MessageValue, Data, Ack, Nak, Rep, Strt, Stack}
use Rattle.dna_station.specs.declared.state.State.{State}
use Rattle.dna_station.specs.declared.state.State.TheVariants.{Running}
use Rattle.dna_station.specs.declared.refusal.StationRefusal.TheVariants.{WrongState, WrongNumber, WrongResponse, WindowFull, Changed}
use Rattle.dna_station.specs.Table.{checks}
use Rattle.dna_station.specs.Book.{failed}
use Rattle.dna_station.specs.Station.{wire}
use Rattle.dna_station.specs.WireStation.{HeldPacket, with_new}
use Rattle.dna_station.specs.WireBook.{wire_passes, wire_is_new, is_held_packet, sends_packet, wire_sending_refusal, wire_after_sending}
use Rattle.dna_station.proofs.Steps.Checks.{checks_passed}
use Rattle.part_station.specs.declared.numbers.Numbers.{Numbers}
use Rattle.part_station.specs.Numbers.{from_on, next_of, data_number, has_room, after_data, highest, rep_refusal, after_rep}
use Rattle.part_station.specs.Open.{SeenPacket, Open, nothing_seen, is_packet, is_received, data_refusal, with_seen}
use Rattle.part_station.specs.Open.{open_sending_refusal, open_after_sending}
use Rattle.part_station.specs.Cases.{Known}
use Rattle.part_station.proofs.Near.{from_near}
use Rattle.part_station.proofs.Like.{Variables}
use Rattle.part_station.proofs.Reached.{IsBounded, IsReached, DataPass, data_pass, reached_sent}
use Rattle.part_station.proofs.Holds.{IsKept, AreAmong, HoldsSeen, HasNumbers, MayHave, IsOpen, IsExact}

pub none_seen : (a : ℕ) (held : List (HeldPacket LinkTag)) → HoldsSeen nothing_seen held a
none_seen a held i packet at above = absurd (omega (arith, above, number_zero 256 i packet at))
  where
    number_zero : (n i : ℕ) (packet : SeenPacket) → slice_get (replicate n (record { number = 0; body = [] })) i ≡ Some packet → packet.number ≡ 0
    number_zero zero i packet at = absurd cc
    number_zero (suc n) zero packet at = sym (ap (λ (p : SeenPacket). p.number) (same_Some _ _ at))
    number_zero (suc n) (suc i) packet at = number_zero n i packet at

at_more : (xs : List (HeldPacket LinkTag)) (y : HeldPacket LinkTag) (i : ℕ) (x : HeldPacket LinkTag) → slice_get xs i ≡ Some x →
    slice_get (xs ++ y ∷ []) i ≡ Some x
at_more [] y i x at = absurd cc
at_more (z ∷ xs) y zero x at = at
at_more (z ∷ xs) y (suc i) x at = at_more xs y i x at

at_end : (xs : List (HeldPacket LinkTag)) (y : HeldPacket LinkTag) → slice_get (xs ++ y ∷ []) (length xs) ≡ Some y
at_end [] y = refl
at_end (z ∷ xs) y = at_end xs y

-- ---- the number of data

-- T is this number, where A is that one
pub record IsNumber (numbers : Option Numbers) (seen : List SeenPacket) (v : Variables) (num : ℕ) : Type 0 where
  pub a : ℕ
  pub number : data_number numbers num ≡ Some (a + 1 + v.ahead)
  pub acknowledged : v.acknowledged ≡ wire a
  pub seen_held : HoldsSeen seen v.held a

module _ (n : Numbers) (seen : List SeenPacket) (v : Variables) (num : ℕ) (has : HasNumbers seen n v)
    (ahead : v.ahead ≤ length v.held) (is : num ≡ wire (v.acknowledged + 1 + v.ahead)) where
  next_is : (next : Option ℕ) → n.next ≡ next → next_of n next num ≡ Some (has.a + 1 + v.ahead)
  next_is (Some t) e =
      let same : t ≡ has.a + 1 + v.ahead = has.among.next t e in
      let like : num ≡ wire t = omega (arith, has.among.acknowledged, is, same) in
      ap (λ (b : Bool). cond b (Some t) None) (eq-eqb num (wire t) like) ∙ ap Some same
  next_is None e =
      let x = has.a + 1 + v.ahead in
      let byte : num < 256 = omega (arith, is) in
      let at : wire x ≡ num = omega (arith, has.among.acknowledged, is) in
      let most = has.kept.one e in
      let same : from_on (n.least_acknowledged + 1) num ≡ x =
      from_near (n.least_acknowledged + 1) x num byte at (omega (arith, has.among.least))
      (omega (arith, has.among.most_given, most, ahead)) in
      let within : from_on (n.least_acknowledged + 1) num ≤ n.most_given + 1 = omega (arith, same, has.among.most_given, ahead) in
      ap (λ (b : Bool). cond b (Some (from_on (n.least_acknowledged + 1) num)) None)
      (le-leb (from_on (n.least_acknowledged + 1) num) (n.most_given + 1) within) ∙ ap Some same

pub is_number : (numbers : Option Numbers) (seen : List SeenPacket) (v : Variables) (num : ℕ) → MayHave seen numbers v → IsBounded v →
    num ≡ wire (v.acknowledged + 1 + v.ahead) → IsNumber numbers seen v num
is_number None seen v num has bounded is = record {
  a = num + 255 - v.ahead;
  number = ap Some (omega (arith, bounded.ahead, bounded.few));
  acknowledged = omega (arith, bounded.ahead, bounded.few, bounded.acknowledged, is);
  seen_held = subst (λ (s : List SeenPacket). HoldsSeen s v.held (num + 255 - v.ahead)) (sym has) (none_seen (num + 255 - v.ahead) v.held);
}
is_number (Some n) seen v num has bounded is = record {
  a = has.a;
  number = next_is n seen v num has bounded.ahead is n.next refl;
  acknowledged = has.among.acknowledged;
  seen_held = has.seen_held;
}

-- ---- the numbers after data

module _ (v : Variables) (body : List ℕ) where
  abbrev new_packet : HeldPacket LinkTag
  new_packet = record { body = body; label = None }

  abbrev held_after : List (HeldPacket LinkTag)
  held_after = with_new (wire_is_new v) v.held body

  -- N is T where it is new, and stays else
  given_by : (b : Bool) → wire_is_new v ≡ b → v.ahead ≤ length v.held →
      (length (with_new b v.held body) ≡ v.ahead + 1) ⊎ ((length (with_new b v.held body) ≡ length v.held) × (v.ahead < length v.held))
  given_by true e ahead = inl (length-append v.held (new_packet ∷ []) ∙ ap (λ (k : ℕ). k + 1) (sym (eqb-true v.ahead (length v.held) e)))
  given_by false e ahead = inr (refl, omega (arith, ahead, eqb-false v.ahead (length v.held) e))

module _ (n : Numbers) (v : Variables) (a given : ℕ) (kept : IsKept n) (among : AreAmong n v a) (few : given ≤ 255)
    (which : (given ≡ v.ahead + 1) ⊎ ((given ≡ length v.held) × (v.ahead < length v.held))) where
  abbrev t : ℕ
  t = a + 1 + v.ahead

  at_least : v.ahead + 1 ≤ given
  at_least = go which
    where
      go : (given ≡ v.ahead + 1) ⊎ ((given ≡ length v.held) × (v.ahead < length v.held)) → v.ahead + 1 ≤ given
      go (inl e) = omega (arith, e)
      go (inr e) = omega (arith, e.0, e.1)

  room_for : has_room (Some n) t ≡ true
  room_for = le-leb t (n.most_acknowledged + 255) (omega (arith, at_least, few, among.most))

  -- no more lie ahead of T than may be outstanding
  most_ahead : (next : Option ℕ) → n.next ≡ next → n.most_given ≤ t + 254
  most_ahead (Some x) e = omega (arith, kept.above x e, among.next x e, kept.few)
  most_ahead None e = omega (arith, kept.one e, among.least)

  kept_after : IsKept (after_data (Some n) t)
  kept_after =
      let ahead = most_ahead n.next refl in
      record {
        near = omega (arith, kept.near);
        few = omega (arith, ahead, kept.few, at_least, few, among.most);
        below = omega (arith, kept.below);
        above = λ x e. let same = same_Some (t + 1) x e in omega (arith, same);
        one = λ e. absurd cc;
      }

  -- what is given was given before, or is new
  more_given : length v.held ≤ given → max n.least_given t ≤ a + given
  more_given l = omega (arith, l, at_least, among.least_given)

  most_given_after : a + given ≤ max n.most_given t
  most_given_after = go which
    where
      go : (given ≡ v.ahead + 1) ⊎ ((given ≡ length v.held) × (v.ahead < length v.held)) → a + given ≤ max n.most_given t
      go (inl e) = omega (arith, e)
      go (inr e) = omega (arith, e.0, among.most_given)

  least_after : max n.least_acknowledged (t - 255) ≤ a
  least_after = omega (arith, among.least, at_least, few)

  most_after : a ≤ min n.most_acknowledged (t - 1)
  most_after = omega (arith, among.most)

-- where nothing was known
module _ (v : Variables) (a given : ℕ) (few : given ≤ 255) (above : v.ahead + 1 ≤ given) where
  kept_first : IsKept (after_data None (a + 1 + v.ahead))
  kept_first = record {
    near = omega (arith, few, above);
    few = omega arith;
    below = omega arith;
    above = λ x e. let same = same_Some (a + 1 + v.ahead + 1) x e in omega (arith, same);
    one = λ e. absurd cc;
  }

-- ---- the data that were seen

equal_bytes : (x y : List ℕ) → bytes_eq x y ≡ true → x ≡ y
equal_bytes x y e = (bytes_eq-Decides x y).0 e

module _ (seen : List SeenPacket) (v : Variables) (body : List ℕ) (a : ℕ) (holds : HoldsSeen seen v.held a) where
  abbrev number : ℕ
  number = a + 1 + v.ahead

  at_ahead : number - a - 1 ≡ v.ahead
  at_ahead = omega arith

  module _ (same : wire_is_new v ≡ false → is_held_packet (slice_get v.held v.ahead) body ≡ true) where
    -- what goes again is the packet there
    again_there : (o : Option (HeldPacket LinkTag)) → slice_get v.held v.ahead ≡ o → is_held_packet o body ≡ true →
        (h : HeldPacket LinkTag) × (slice_get v.held v.ahead ≡ Some h) × (body ≡ h.body)
    again_there None e is = absurd cc
    again_there (Some h) e is = (h, e, equal_bytes body h.body is)

    there : (b : Bool) → wire_is_new v ≡ b →
        (h : HeldPacket LinkTag) × (slice_get (with_new b v.held body) v.ahead ≡ Some h) × (h.body ≡ body)
    there true e = (
      record { body = body; label = None },
      ap (slice_get (with_new true v.held body)) (eqb-true v.ahead (length v.held) e) ∙ at_end v.held (record { body = body; label = None }),
      refl,
    )
    there false e =
        let h = again_there (slice_get v.held v.ahead) refl (same e) in
        (h.0, h.1, sym h.2)

    keeps : (b : Bool) (i : ℕ) (h : HeldPacket LinkTag) → slice_get v.held i ≡ Some h → slice_get (with_new b v.held body) i ≡ Some h
    keeps true i h e = at_more v.held (record { body = body; label = None }) i h e
    keeps false i h e = e

    pub seen_after : HoldsSeen (slice_set seen (wire number) (record { number = number; body = body })) (with_new (wire_is_new v) v.held body) a
    seen_after i packet at above = go (at_set seen (wire number) i (record { number = number; body = body }) packet at)
      where
        go : ((i ≡ wire number) × (record { number = number; body = body } ≡ packet)) ⊎ ((i ≡ wire number → ⊥) × (slice_get seen i ≡ Some packet)) →
            (h : HeldPacket LinkTag) × (slice_get (with_new (wire_is_new v) v.held body) (packet.number - a - 1) ≡ Some h) × (h.body ≡ packet.body)
        go (inl e) =
            let h = there (wire_is_new v) refl in
            subst (λ (p : SeenPacket). (h : HeldPacket LinkTag) × (slice_get (with_new (wire_is_new v) v.held body) (p.number - a - 1) ≡ Some h)
            × (h.body ≡ p.body)) e.1
            (h.0, ap (slice_get (with_new (wire_is_new v) v.held body)) at_ahead ∙ h.1, h.2)
        go (inr e) =
            let h = holds i packet e.1 above in
            (h.0, keeps (wire_is_new v) (packet.number - a - 1) h.0 h.1, h.2)

    -- so they may be these
    pub may_be : (o : Option SeenPacket) → slice_get seen (wire number) ≡ o → is_packet o number body ≡ true
    may_be None e = refl
    may_be (Some packet) e = go (eqb packet.number number) refl
      where
        go : (b : Bool) → eqb packet.number number ≡ b → cond b (bytes_eq body packet.body) true ≡ true
        go false is = refl
        go true is =
            let at : packet.number ≡ number = eqb-true packet.number number is in
            let h = holds (wire number) packet e (omega (arith, at)) in
            let place : packet.number - a - 1 ≡ v.ahead = omega (arith, at) in
            let held : slice_get v.held v.ahead ≡ Some h.0 = ap (slice_get v.held) (sym place) ∙ h.1 in
            let new : wire_is_new v ≡ false = ne_eqb v.ahead (length v.held)
            (λ (f : v.ahead ≡ length v.held). omega (arith, f, slice_get_within v.held v.ahead h.0 held)) in
            let passed : is_held_packet (Some h.0) body ≡ true =
            ap (λ (o : Option (HeldPacket LinkTag)). is_held_packet o body) (sym held) ∙ same new in
            ap (bytes_eq body) (sym h.2) ∙ passed

-- ---- data are sent

pub record DataSent (numbers : Option Numbers) (seen : List SeenPacket) (v : Variables) (num : ℕ) (body : List ℕ) : Type 0 where
  pub t : ℕ
  pub number : data_number numbers num ≡ Some t
  pub room : has_room numbers t ≡ true
  pub packet : is_packet (slice_get seen (wire t)) t body ≡ true
  pub has : HasNumbers (slice_set seen (wire t) (record { number = t; body = body })) (after_data numbers t) (sends_packet v body)
  pub exact : IsExact numbers → IsExact (Some (after_data numbers t))

module _ (v : Variables) (num : ℕ) (body : List ℕ) (bounded : IsBounded v) (after : IsBounded (sends_packet v body))
    (next : num ≡ wire (v.acknowledged + 1 + v.ahead))
    (same : wire_is_new v ≡ false → is_held_packet (slice_get v.held v.ahead) body ≡ true) where
  abbrev held : List (HeldPacket LinkTag)
  held = held_after v body

  pub data_sent : (numbers : Option Numbers) (seen : List SeenPacket) → MayHave seen numbers v → DataSent numbers seen v num body
  data_sent None seen has =
      let is = is_number None seen v num has bounded next in
      record {
        t = is.a + 1 + v.ahead;
        number = is.number;
        room = refl;
        packet = may_be seen v body is.a is.seen_held same (slice_get seen (wire (is.a + 1 + v.ahead))) refl;
        has = record {
          kept = kept_first v is.a (length held) after.few after.ahead;
          a = is.a;
          among = record {
            acknowledged = is.acknowledged;
            least = omega (arith, after.few, after.ahead);
            most = omega arith;
            least_given = omega (arith, after.ahead);
            most_given = omega (arith, after.few);
            next = λ x e. let same = same_Some (is.a + 1 + v.ahead + 1) x e in omega (arith, same);
          };
          seen_held = seen_after seen v body is.a is.seen_held same;
        };
        exact = λ e. absurd e;
      }
  data_sent (Some n) seen has =
      let a = has.a in
      let given = length held in
      let which = given_by v body (wire_is_new v) refl bounded.ahead in
      let more = held_more (wire_is_new v) in
      record {
        t = a + 1 + v.ahead;
        number = next_is n seen v num has bounded.ahead next n.next refl;
        room = room_for n v a given has.kept has.among after.few which;
        packet = may_be seen v body a has.seen_held same (slice_get seen (wire (a + 1 + v.ahead))) refl;
        has = record {
          kept = kept_after n v a given has.kept has.among after.few which;
          a = a;
          among = record {
            acknowledged = has.among.acknowledged;
            least = least_after n v a given has.kept has.among after.few which;
            most = most_after n v a given has.kept has.among after.few which;
            least_given = more_given n v a given has.kept has.among after.few which more;
            most_given = most_given_after n v a given has.kept has.among after.few which;
            next = λ x e. let same = same_Some (a + 1 + v.ahead + 1) x e in omega (arith, same);
          };
          seen_held = seen_after seen v body a has.seen_held same;
        };
        exact = λ e. omega (arith, e);
      }
    where
      held_more : (b : Bool) → length v.held ≤ length (with_new b v.held body)
      held_more true = omega (arith, length-append v.held (new_packet v body ∷ []))
      held_more false = omega arith

-- ---- a REP is sent

pub record RepSent (numbers : Option Numbers) (seen : List SeenPacket) (v : Variables) (num : ℕ) : Type 0 where
  pub allowed : rep_refusal numbers num ≡ None
  pub has : HasNumbers seen (after_rep numbers num) v
  pub exact : IsExact numbers → IsExact (Some (after_rep numbers num))

module _ (v : Variables) (num : ℕ) (bounded : IsBounded v) (some : 0 < length v.held) (is : num ≡ wire (v.acknowledged + length v.held)) where
  pub rep_sent : (numbers : Option Numbers) (seen : List SeenPacket) → MayHave seen numbers v → RepSent numbers seen v num
  rep_sent None seen has =
      let a = num + 256 - length v.held in
      record {
        allowed = refl;
        has = record {
          kept = record { near = omega arith; few = omega arith; below = omega arith; above = λ x e. absurd cc; one = λ e. omega arith };
          a = a;
          among = record {
            acknowledged = omega (arith, bounded.few, bounded.acknowledged, is);
            least = omega (arith, bounded.few);
            most = omega (arith, some);
            least_given = omega (arith, bounded.few);
            most_given = omega (arith, bounded.few);
            next = λ x e. absurd cc;
          };
          seen_held = subst (λ (s : List SeenPacket). HoldsSeen s v.held a) (sym has) (none_seen a v.held);
        };
        exact = λ e. absurd e;
      }
  rep_sent (Some n) seen has =
      let a = has.a in
      let given = a + length v.held in
      let byte : num < 256 = omega (arith, is) in
      let at : wire given ≡ num = omega (arith, has.among.acknowledged, is) in
      let h : highest n num ≡ given = from_near n.least_given given num byte at has.among.least_given
      (omega (arith, has.among.most_given, has.kept.few, has.kept.below)) in
      let wide = ne_eqb n.least_acknowledged n.most_given
      (λ (f : n.least_acknowledged ≡ n.most_given). omega (arith, f, has.among.least, has.among.most_given, some)) in
      let within = le-leb (highest n num) n.most_given (omega (arith, h, has.among.most_given)) in
      let above = ne_eqb (highest n num) n.least_acknowledged
      (λ (f : highest n num ≡ n.least_acknowledged). omega (arith, f, h, has.among.least, some)) in
      record {
        allowed =
            ap (λ (b : Bool). cond b (Some WrongState) (cond (leb (highest n num) n.most_given)
            (cond (eqb (highest n num) n.least_acknowledged) (Some WrongState) None) (Some WrongNumber))) wide
            ∙ ap (λ (b : Bool). cond b (cond (eqb (highest n num) n.least_acknowledged) (Some WrongState) None) (Some WrongNumber)) within
            ∙ ap (λ (b : Bool). cond b (Some WrongState) None) above;
        has = record {
          kept = record {
            near = omega (arith, has.kept.near);
            few = omega (arith, has.kept.few, h, has.among.most_given);
            below = omega arith;
            above = λ x e. omega (arith, has.kept.above x e);
            one = λ e. omega arith;
          };
          a = a;
          among = record {
            acknowledged = has.among.acknowledged;
            least = omega (arith, has.among.least, h, bounded.few);
            most = omega (arith, has.among.most, h, some);
            least_given = omega (arith, h);
            most_given = omega (arith, h);
            next = has.among.next;
          };
          seen_held = has.seen_held;
        };
        exact = λ e. omega (arith, e);
      }

-- ---- any message

pub record IsSent (w : Known) (o : Open) (m : MessageValue) : Type 0 where
  pub allowed : open_sending_refusal o m ≡ None
  pub holds : IsOpen (wire_after_sending w m) (open_after_sending o m)
  pub exact : IsExact o.numbers → IsExact (open_after_sending o m).numbers

is_answer : (received : Option ℕ) (k resp : ℕ) → ((r : ℕ) → received ≡ Some r → k ≡ r) → resp ≡ k → is_received received resp ≡ true
is_answer None k resp holds e = refl
is_answer (Some r) k resp holds e = eq-eqb resp r (e ∙ holds r refl)

pub open_data : (w : Known) (o : Open) (flags : _) (resp num : ℕ) (body : List ℕ) → IsOpen w o → IsBounded w.variables →
    IsBounded (sends_packet w.variables body) → DataPass w resp num body → IsSent w o (Data flags resp num body)
open_data w o flags resp num body is bounded after pass =
    let sent = data_sent w.variables num body bounded after pass.next pass.same o.numbers o.seen is.numbers in
    let P : Option ℕ → Type 0 = λ x. IsOpen (wire_after_sending w (Data flags resp num body)) (with_seen o resp body x) in
    let Q : Option ℕ → Type 0 = λ x. IsExact o.numbers → IsExact (with_seen o resp body x).numbers in
    record {
      allowed =
          ap (data_refusal o resp body) sent.number
          ∙ ap (λ (b : Bool). cond b (cond (has_room o.numbers sent.t)
          (cond (is_packet (slice_get o.seen (wire sent.t)) sent.t body) None (Some Changed)) (Some WindowFull)) (Some WrongResponse))
          (is_answer o.received w.variables.received resp is.received pass.response)
          ∙ ap (λ (b : Bool). cond b (cond (is_packet (slice_get o.seen (wire sent.t)) sent.t body) None (Some Changed)) (Some WindowFull)) sent.room
          ∙ ap (λ (b : Bool). cond b None (Some Changed)) sent.packet;
      holds = subst P (sym sent.number) (record {
        running = pass.running;
        received = λ r e. sym pass.response ∙ same_Some resp r e;
        numbers = sent.has;
      });
      exact = subst Q (sym sent.number) sent.exact;
    }

open_answer : (w after : Known) (o : Open) (resp : ℕ) → IsOpen w o → after.variables ≡ w.variables → resp ≡ w.variables.received →
    IsOpen after (record o { received = Some resp })
open_answer w after o resp is same e = record {
  running = ap (λ (v : Variables). v.state) same ∙ is.running;
  received = λ r f. ap (λ (v : Variables). v.received) same ∙ sym e ∙ same_Some resp r f;
  numbers = subst (λ (v : Variables). MayHave o.seen o.numbers v) (sym same) is.numbers;
}

module _ (w : Known) (o : Open) (is : IsOpen w o) (reached : IsReached w) where
  refused_as : (m : MessageValue) → checks Running m ≡ None → wire_sending_refusal w m ≡ None → ⊥
  refused_as m none e =
      let at = subst (λ (s : State). failed (wire_passes w m) (checks s m) ≡ None) is.running e in
      let never : failed (wire_passes w m) (checks Running m) ≡ Some WrongState = ap (failed (wire_passes w m)) none in
      cc

  pub open_sent : (m : MessageValue) → wire_sending_refusal w m ≡ None → IsSent w o m
  open_sent (Data flags resp num body) e =
      let pass = data_pass w flags resp num body e in
      open_data w o flags resp num body is reached.bounded (reached_sent w (Data flags resp num body) e reached).bounded pass
  open_sent (Ack flags resp) e =
      let all = checks_passed (wire_passes w (Ack flags resp)) w.variables.state (Ack flags resp) refl e in
      let same = eqb-true resp w.variables.received all.0 in
      record {
        allowed = ap (λ (b : Bool). cond b None (Some WrongResponse)) (is_answer o.received w.variables.received resp is.received same);
        holds = open_answer w w o resp is refl same;
        exact = λ x. x;
      }
  open_sent (Nak flags reason resp) e =
      let all = checks_passed (wire_passes w (Nak flags reason resp)) w.variables.state (Nak flags reason resp) refl e in
      let same = eqb-true resp w.variables.received all.0 in
      record {
        allowed = ap (λ (b : Bool). cond b None (Some WrongResponse)) (is_answer o.received w.variables.received resp is.received same);
        holds = open_answer w (wire_after_sending w (Nak flags reason resp)) o resp is refl same;
        exact = λ x. x;
      }
  open_sent (Rep flags num) e =
      let all = checks_passed (wire_passes w (Rep flags num)) w.variables.state (Rep flags num) refl e in
      let some : 0 < length w.variables.held = not_none (length w.variables.held) all.0 in
      let sent = rep_sent w.variables num reached.bounded some (eqb-true num (wire (w.variables.acknowledged + length w.variables.held)) all.1.0)
      o.numbers o.seen is.numbers in
      record {
        allowed = sent.allowed;
        holds = record { running = is.running; received = is.received; numbers = sent.has };
        exact = sent.exact;
      }
    where
      not_none : (k : ℕ) → not (eqb k 0) ≡ true → 0 < k
      not_none zero e = absurd cc
      not_none (suc k) e = omega arith
  open_sent (Strt flags) e = absurd (refused_as (Strt flags) refl e)
  open_sent (Stack flags) e = absurd (refused_as (Stack flags) refl e)
