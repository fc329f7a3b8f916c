-- What the station of one end makes of what is left is what is left of what it makes, with any labels beside its packets.
use Rattle.leaving_runs.proofs.Prelude.{◌≡◌, ℕ, zero, suc, ◌+◌, ◌-◌, Bool, true, false, not, ◌&&◌, eqb, ltb, leb, cond, Option, Some, None, List}
use Rattle.leaving_runs.proofs.Prelude.{[], ◌∷◌, ◌++◌, map, fold, length, drop, refl, sym, ap, ap₂, ◌∙◌, subst, option_map, slice_get, slice_set}
use Rattle.leaving_runs.proofs.Prelude.{length-map, map-append, map-set, drop-map, slice_get-map, bytes_eq-Decides, MessageValue, Data, Ack, Nak}
use Rattle.leaving_runs.proofs.Prelude.{Rep, Strt, Stack, NakReason, RepResponse, NoBuffer, Causes, with_cause, State, Istrt, Astrt, Running}
use Rattle.leaving_runs.proofs.Prelude.{StationEvent, Start, Halt, WrongState, WrongNumber, Tag, of_any_period, WINDOW, Check, RespIsLast}
use Rattle.leaving_runs.proofs.Prelude.{CauseIsOpen, SomeOutstanding, NumIsHighest, NumIsNext, RoomIfNew, AsFirstGiven, checks, Effect, GoTo}
use Rattle.leaving_runs.proofs.Prelude.{TakePartner, Respond, SetBack, TakePacket, AnswerRep, Row, row, wire, num_of, resp_of, Sound, failed}
use Rattle.leaving_runs.proofs.Prelude.{has_packet, keep_refusal, HeldPacket, StationVariables, WireStation, wire_after_event, with_new, labelled}
use Rattle.leaving_runs.proofs.Prelude.{with_label, wire_after_label, wire_is_new, is_held_packet, wire_passes, acknowledges, wire_acknowledged_by}
use Rattle.leaving_runs.proofs.Prelude.{wire_is_next, with_next, wire_does, wire_book, wire_sending_refusal, wire_after_sending}
use Rattle.leaving_runs.proofs.Prelude.{wire_arrival_refusal, wire_after_arrival, gives_new, with_body}
use Rattle.leaving_runs.proofs.Stations.{first_passed, row_same}

set_itself : {X : Type 0} (xs : List X) (n : ℕ) (x : X) → slice_get xs n ≡ Some x → slice_set xs n x ≡ xs
set_itself [] n x e = refl
set_itself (y ∷ xs) zero x e = cc
set_itself (y ∷ xs) (suc n) x e = ap (λ (zs : List _). y ∷ zs) (set_itself xs n x e)

resp_same : (packet : List ℕ → List ℕ) (m : MessageValue) → resp_of (with_body packet m) ≡ resp_of m
resp_same packet (Data flags resp num body) = refl
resp_same packet m = refl

num_same : (packet : List ℕ → List ℕ) (m : MessageValue) → num_of (with_body packet m) ≡ num_of m
num_same packet (Data flags resp num body) = refl
num_same packet m = refl

-- ---- what is held

module _ {L : Type 0} where
  abbrev pub body : HeldPacket L → List ℕ
  body packet = packet.body

  abbrev pub bodies : List (HeldPacket L) → List (List ℕ)
  bodies held = map body held

  abbrev pub with_held : WireStation L → List (HeldPacket L) → WireStation L
  with_held w held = record w { variables = record w.variables { held = held } }

  labelled_same : (held : List (HeldPacket L)) (o : Option (HeldPacket L)) → slice_get held (length held - 1) ≡ o → (label : L) →
      bodies (labelled held o label) ≡ bodies held
  labelled_same held None e label = refl
  labelled_same held (Some newest) e label =
      map-set body held (length held - 1) (record newest { label = Some label })
      ∙ set_itself (bodies held) (length held - 1) newest.body
      (slice_get-map body held (length held - 1) ∙ ap (option_map body) e)

  label_same : (held : List (HeldPacket L)) (label : L) → bodies (with_label held label) ≡ bodies held
  label_same held label = labelled_same held (slice_get held (length held - 1)) refl label

module _ {L : Type 0} (packet : List ℕ → List ℕ) where
  -- of the packets that are held these are left
  abbrev pub Becomes : (whole left : List (HeldPacket L)) → Type 0
  Becomes whole left = bodies left ≡ map packet (bodies whole)

  -- this is left of the station
  pub record StationLeft (w t : WireStation L) : Type 0 where
    pub held : List (HeldPacket L)
    pub is : t ≡ with_held w held
    pub becomes : Becomes w.variables.held held

  pub by_held : (w t : WireStation L) (P : WireStation L → Type 0) → StationLeft w t →
      ((held : List (HeldPacket L)) → Becomes w.variables.held held → P (with_held w held)) → P t
  by_held w t P s given = subst P (sym s.is) (given s.held s.becomes)

  new_becomes : (b : Bool) (whole left : List (HeldPacket L)) (bytes : List ℕ) → Becomes whole left →
      Becomes (with_new b whole bytes) (with_new b left (packet bytes))
  new_becomes true whole left bytes e =
      map-append body left (record { body = packet bytes; label = None } ∷ [])
      ∙ ap (λ (xs : List (List ℕ)). xs ++ packet bytes ∷ []) e
      ∙ sym (map-append packet (bodies whole) (bytes ∷ []))
      ∙ ap (map packet) (sym (map-append body whole (record { body = bytes; label = None } ∷ [])))
  new_becomes false whole left bytes e = e

  given_left : (o t : Option (HeldPacket L)) (bytes : List ℕ) → option_map body t ≡ option_map packet (option_map body o) →
      is_held_packet o bytes ≡ true → is_held_packet t (packet bytes) ≡ true
  given_left None t bytes same is = absurd cc
  given_left (Some p) None bytes same is = absurd cc
  given_left (Some p) (Some q) bytes same is =
      (bytes_eq-Decides (packet bytes) q.body).1
      (ap packet ((bytes_eq-Decides bytes p.body).0 is) ∙ sym (the_body (ap (λ (o : Option (List ℕ)). or_none o) same)))
    where
      or_none : Option (List ℕ) → List ℕ
      or_none (Some x) = x
      or_none None = []

      the_body : q.body ≡ packet p.body → q.body ≡ packet p.body
      the_body e = e

module _ {L : Type 0} (packet : List ℕ → List ℕ) (w : WireStation L) (left : List (HeldPacket L)) (e : Becomes packet w.variables.held left) where
  abbrev t : WireStation L
  t = with_held w left

  abbrev k : StationVariables L
  k = w.variables

  pub as_many : length left ≡ length k.held
  as_many =
      sym (length-map left body) ∙ ap length e ∙ length-map (bodies k.held) packet ∙ length-map k.held body

  -- ---- the user

  pub event_left : (event : StationEvent) → StationLeft packet (wire_after_event w event) (wire_after_event t event)
  event_left Start = record { held = []; is = refl; becomes = refl }
  event_left Halt = record { held = left; is = refl; becomes = e }

  -- ---- a message is sent

  new_same : wire_is_new t.variables ≡ wire_is_new k
  new_same = ap (eqb k.ahead) as_many

  given : (i : ℕ) (bytes : List ℕ) → is_held_packet (slice_get k.held i) bytes ≡ true → is_held_packet (slice_get left i) (packet bytes) ≡ true
  given i bytes is =
      given_left packet (slice_get k.held i) (slice_get left i) bytes
      (sym (slice_get-map body left i) ∙ ap (λ (xs : List (List ℕ)). slice_get xs i) e ∙ slice_get-map packet (bodies k.held) i
      ∙ ap (option_map packet) (slice_get-map body k.held i)) is

  as_first : (b : Bool) (bytes : List ℕ) → cond b true (is_held_packet (slice_get k.held k.ahead) bytes) ≡ true →
      cond b true (is_held_packet (slice_get left k.ahead) (packet bytes)) ≡ true
  as_first true bytes is = refl
  as_first false bytes is = given k.ahead bytes is

  passes_left : (flags : _) (resp num : ℕ) (bytes : List ℕ) (check : Check) → wire_passes w (Data flags resp num bytes) check ≡ true →
      wire_passes t (Data flags resp num (packet bytes)) check ≡ true
  passes_left flags resp num bytes RespIsLast is = is
  passes_left flags resp num bytes CauseIsOpen is = refl
  passes_left flags resp num bytes SomeOutstanding is = ap (λ (n : ℕ). not (eqb n 0)) as_many ∙ is
  passes_left flags resp num bytes NumIsHighest is = ap (λ (n : ℕ). eqb num (wire (k.acknowledged + n))) as_many ∙ is
  passes_left flags resp num bytes NumIsNext is = is
  passes_left flags resp num bytes RoomIfNew is = ap₂ (λ (b : Bool) (n : ℕ). cond b (ltb n WINDOW) true) new_same as_many ∙ is
  passes_left flags resp num bytes AsFirstGiven is =
      ap (λ (b : Bool). cond b true (is_held_packet (slice_get left k.ahead) (packet bytes))) new_same ∙ as_first (wire_is_new k) bytes is

  failed_left : (m : MessageValue) (state : State) → failed (wire_passes w m) (checks state m) ≡ None →
      failed (wire_passes t (with_body packet m)) (checks state (with_body packet m)) ≡ None
  failed_left (Data flags resp num bytes) Running is =
      first_passed (wire_passes w (Data flags resp num bytes)) (wire_passes t (Data flags resp num (packet bytes))) (passes_left flags resp num bytes)
      (NumIsNext ∷ RespIsLast ∷ RoomIfNew ∷ AsFirstGiven ∷ []) is
  failed_left (Data flags resp num bytes) state is = is
  failed_left (Rep flags num) Running is =
      ap (λ (n : ℕ). cond (not (eqb n 0)) (cond (eqb num (wire (k.acknowledged + n))) None (Some WrongNumber)) (Some WrongState)) as_many ∙ is
  failed_left (Rep flags num) state is = is
  failed_left (Ack flags resp) Running is = is
  failed_left (Ack flags resp) state is = is
  failed_left (Nak flags reason resp) Running is = is
  failed_left (Nak flags reason resp) state is = is
  failed_left (Strt flags) Istrt is = is
  failed_left (Strt flags) state is = is
  failed_left (Stack flags) Astrt is = is
  failed_left (Stack flags) state is = is

  pub sending_left : (m : MessageValue) → wire_sending_refusal w m ≡ None → wire_sending_refusal t (with_body packet m) ≡ None
  sending_left m is = failed_left m k.state is

  pub after_left : (m : MessageValue) → StationLeft packet (wire_after_sending w m) (wire_after_sending t (with_body packet m))
  after_left (Data flags resp num bytes) = record {
    held = with_new (wire_is_new k) left (packet bytes);
    is = ap (λ (b : Bool). record w { variables = record k { ahead = k.ahead + 1; held = with_new b left (packet bytes) } }) new_same;
    becomes = new_becomes packet (wire_is_new k) k.held left bytes e;
  }
  after_left m = record { held = left; is = refl; becomes = e }

  pub gives_left : (m : MessageValue) → gives_new t (with_body packet m) ≡ gives_new w m
  gives_left (Data flags resp num bytes) = new_same
  gives_left m = refl

  -- any label
  pub labels_left : (label other : L) → StationLeft packet (wire_after_label w label) (wire_after_label t other)
  labels_left label other = record {
    held = with_label left other;
    is = refl;
    becomes = label_same left other ∙ e ∙ ap (map packet) (sym (label_same k.held label));
  }

  -- ---- an arrival

  acknowledged_left : (b : Bool) (resp : ℕ) →
      StationLeft packet (record w { variables = wire_acknowledged_by b k resp }) (record t { variables = wire_acknowledged_by b t.variables resp })
  acknowledged_left true resp = record {
    held = drop (acknowledges k resp) left;
    is = refl;
    becomes = sym (drop-map body (acknowledges k resp) left) ∙ ap (drop (acknowledges k resp)) e
        ∙ drop-map packet (acknowledges k resp) (bodies k.held)
        ∙ ap (map packet) (drop-map body (acknowledges k resp) k.held);
  }
  acknowledged_left false resp = record { held = left; is = refl; becomes = e }

  module _ (m n : MessageValue) (resp_is : resp_of n ≡ resp_of m) (num_is : num_of n ≡ num_of m) (tag : Tag) (kept : Bool) where
    next_left : (b : Bool) (causes : Causes) → StationLeft packet (record w { variables = with_next b k; causes = causes })
        (record t { variables = with_next b t.variables; causes = causes })
    next_left true causes = record { held = left; is = refl; becomes = e }
    next_left false causes = record { held = left; is = refl; becomes = e }

    pub does_left : (effect : Effect) → StationLeft packet (wire_does m tag kept w effect) (wire_does n tag kept t effect)
    does_left (GoTo state) = record { held = left; is = refl; becomes = e }
    does_left TakePartner = record { held = left; is = refl; becomes = e }
    does_left Respond =
        subst (λ (resp : ℕ). StationLeft packet (wire_does m tag kept w Respond) (record t {
          variables = wire_acknowledged_by (ltb 0 (acknowledges k resp) && leb (acknowledges k resp) (length left)) t.variables resp;
        })) (sym resp_is)
        (subst (λ (size : ℕ). StationLeft packet (wire_does m tag kept w Respond) (record t {
          variables = wire_acknowledged_by
              (ltb 0 (acknowledges k (resp_of m)) && leb (acknowledges k (resp_of m)) size) t.variables (resp_of m);
        })) (sym as_many)
        (acknowledged_left (ltb 0 (acknowledges k (resp_of m)) && leb (acknowledges k (resp_of m)) (length k.held)) (resp_of m)))
    does_left SetBack = record { held = left; is = refl; becomes = e }
    does_left TakePacket =
        subst (λ (num : ℕ). StationLeft packet (wire_does m tag kept w TakePacket) (record t {
          variables = with_next (wire_is_next k num && kept) t.variables;
          causes = cond (wire_is_next k num && not kept) (with_cause NoBuffer w.causes) w.causes;
        })) (sym num_is)
        (next_left (wire_is_next k (num_of m) && kept)
        (cond (wire_is_next k (num_of m) && not kept) (with_cause NoBuffer w.causes) w.causes))
    does_left AnswerRep =
        subst (λ (num : ℕ). StationLeft packet (wire_does m tag kept w AnswerRep) (record t {
          causes = cond (eqb num k.received) w.causes (with_cause RepResponse w.causes);
        })) (sym num_is)
        (record { held = left; is = refl; becomes = e })

module _ {L : Type 0} (packet own : List ℕ → List ℕ) (m : MessageValue) (tag : Tag) (kept : Bool) where
  all_left : (effects : List Effect) (w t : WireStation L) → StationLeft own w t →
      StationLeft own (fold (wire_does m tag kept) w effects) (fold (wire_does (with_body packet m) tag kept) t effects)
  all_left [] w t s = s
  all_left (effect ∷ effects) w t s =
      all_left effects (wire_does m tag kept w effect) (wire_does (with_body packet m) tag kept t effect)
      (by_held own w t (λ (v : WireStation L). StationLeft own (wire_does m tag kept w effect) (wire_does (with_body packet m) tag kept v effect)) s
      (λ left e. does_left own w left e m (with_body packet m) (resp_same packet m) (num_same packet m) tag kept effect))

  pub arrival_left : (w t : WireStation L) → StationLeft own w t →
      StationLeft own (wire_after_arrival w (Sound m tag) kept) (wire_after_arrival t (Sound (with_body packet m) tag) kept)
  arrival_left w t s =
      subst (λ (r : Row). StationLeft own (wire_after_arrival w (Sound m tag) kept) (fold (wire_does (with_body packet m) tag kept) t r.effects))
      (sym (row_same packet t.variables.state m)
      )
      (subst (λ (state : State). StationLeft own (wire_after_arrival w (Sound m tag) kept)
      (fold (wire_does (with_body packet m) tag kept) t (row state m).effects))
      (sym (ap (λ (v : WireStation L). v.variables.state) s.is))
      (all_left (row w.variables.state m).effects w t s))

  pub refusal_left : (w t : WireStation L) → StationLeft own w t →
      wire_arrival_refusal of_any_period t (Sound (with_body packet m) tag) kept ≡ wire_arrival_refusal of_any_period w (Sound m tag) kept
  refusal_left w t s =
      by_held own w t
      (λ (v : WireStation L). wire_arrival_refusal of_any_period v (Sound (with_body packet m) tag) kept
      ≡ wire_arrival_refusal of_any_period w (Sound m tag) kept) s
      (λ left e. ap₂ (λ (r : Row) (num : ℕ). keep_refusal (has_packet r.effects && wire_is_next w.variables num) kept)
      (row_same packet w.variables.state m) (num_same packet m))

-- damage
pub counted_left : {L : Type 0} (own : List ℕ → List ℕ) (reason : NakReason) (w t : WireStation L) → StationLeft own w t → (b : Bool) →
    StationLeft own (cond b (wire_book.counts reason w) w) (cond b (wire_book.counts reason t) t)
counted_left own reason w t s true = record { held = s.held; is = ap (wire_book.counts reason) s.is; becomes = s.becomes }
counted_left own reason w t s false = s
