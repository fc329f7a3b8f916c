-- What a station can send, by what is said of it, and what is said of it then.
use Rattle.std.proofs.Common.{◌⊎◌, inl, inr, ◌≡◌, ℕ, ◌+◌, ◌-◌, ◌<◌, ◌≤◌, Bool, true, false, ◌&&◌, ◌||◌, not, cond, eqb, ltb, leb, Option, Some}
use Rattle.std.proofs.Common.{None, Ok, List, [], ◌∷◌, ◌++◌, length, map, get_or, refl, sym, ap, subst, arith, ◌∙◌, append_assoc, length-append}
use Rattle.std.specs.Prelude.{slice_get}
use Rattle.std.proofs.lemmas.Bool.{and_from, ltb-true, eqb-true, eqb-false, le-leb, lt-leb, eq-eqb, ne_eqb, le-ltb, not-true}
use Rattle.std.proofs.lemmas.List.{map-append, length-map, get_or-append-add, get_or-map}
use Rattle.std.proofs.lemmas.Option.{slice_get_within, get_or_from_slice_get}
use Rattle.std.proofs.lemmas.Slice.Eq.{bytes_eq-Decides}
use Rattle.wire_base.specs.Seq.{wire_distance}
use Rattle.ddcmp_msg.specs.Message.{MessageValue, Data, Ack, Nak, Rep, Strt, Stack}
use Rattle.dna_station.specs.declared.state.State.{State}
use Rattle.dna_station.specs.declared.state.State.TheVariants.{Halted, Istrt, Astrt, Running}
use Rattle.dna_station.specs.Table.{WINDOW, checks}
use Rattle.dna_station.specs.Book.{failed}
use Rattle.dna_station.specs.Station.{wire}
use Rattle.dna_station.specs.WireStation.{HeldPacket, StationVariables, WireStation, with_new}
use Rattle.dna_station.specs.WireBook.{wire_passes, wire_is_new, is_held_packet, sends_packet}
use Rattle.dna_station.proofs.Steps.Checks.{ArePassed, is_numbered, listed, checks_passed}
use Rattle.accusing.specs.declared.heard.Heard.{Heard}
use Rattle.accusing.specs.Mark.{mark_of}
use Rattle.accusing.specs.Heard.{has_resp, advanced}
use Rattle.accusing.specs.Sight.{Given, none_given, may_follow, may_go, gives_at}
use Rattle.accusing.proofs.Modulo.{or_either, distance_same}
use Rattle.accusing.proofs.Orders.{IsWithin}
use Rattle.accusing.proofs.Fits.{given_more, marked, NoneIsGiven, IsReached, HasGiven}

either_true : (a c : Bool) → (c ≡ false → a ≡ true) → (a || c) ≡ true
either_true true c e = refl
either_true false true e = refl
either_true false false e = e refl

or_last : (a b : Bool) → b ≡ true → (a || b) ≡ true
or_last true b e = refl
or_last false b e = e

not_both : (x y : Bool) → (y ≡ false → x ≡ false) → (x && not y) ≡ false
not_both false y e = refl
not_both true true e = refl
not_both true false e = e refl

-- a message with a number is sent in RUNNING alone
pub runs_to_send : (passes : _) (state : State) (m : MessageValue) → is_numbered m ≡ true → failed passes (checks state m) ≡ None → state ≡ Running
runs_to_send passes Running m numbered e = refl
runs_to_send passes Halted m numbered e = absurd cc
runs_to_send passes Istrt (Strt flags) numbered e = absurd cc
runs_to_send passes Istrt m numbered e = absurd cc
runs_to_send passes Astrt (Stack flags) numbered e = absurd cc
runs_to_send passes Astrt m numbered e = absurd cc

module _ {L : Type 0} where
  -- ---- from the next number on

  reached_here : (h : Heard) (k : StationVariables L) (resp : ℕ) → resp ≡ k.received → IsReached h k → IsReached (advanced h resp) k
  reached_here h k resp e is = record {
    byte = is.byte;
    reach = subst (λ (x : ℕ). wire_distance 256 x k.received ≤ (advanced h x).reach) (sym e)
        (omega (arith, distance_same k.received is.byte));
  }

  pub advanced_given : (h : Heard) (g : Given) (k : StationVariables L) (resp : ℕ) → resp ≡ k.received → HasGiven h g k →
      HasGiven (advanced h resp) g k
  advanced_given h g k resp e is = record {
    running = is.running;
    reached = reached_here h k resp e is.reached;
    before = is.before;
    marks = is.marks;
    acknowledged = is.acknowledged;
    few = is.few;
    ahead = is.ahead;
    passed = is.passed;
    moved = is.moved;
    unanswered = is.unanswered;
    unasked = is.unasked;
  }

  -- where no number is given
  pub none_as_given : (h : Heard) (k : StationVariables L) → k.state ≡ Running → NoneIsGiven k → IsReached h k → HasGiven h none_given k
  none_as_given h k running given reached = record {
    running = running;
    reached = reached;
    before = [];
    marks = sym (ap (λ (x : List (HeldPacket L)). map marked x) given.held);
    acknowledged = given.acknowledged;
    few = omega (arith, ap length given.held);
    ahead = omega (arith, given.ahead);
    passed = inl refl;
    moved = inl (omega (arith, ap length given.held));
    unanswered = λ e. (refl, omega arith);
    unasked = λ e. omega (arith, ap length given.held);
  }

  -- ---- data

  pub length_marks : (h : Heard) (g : Given) (k : StationVariables L) (is : HasGiven h g k) → length g.marks ≡ length is.before + length k.held
  length_marks h g k is =
      ap length is.marks ∙ length-append is.before (map marked k.held) ∙ ap (λ x. length is.before + x) (length-map k.held marked)

  module _ (h : Heard) (g : Given) (k : StationVariables L) (num : ℕ) (body : List ℕ) (is : HasGiven h g k)
      (next : num ≡ wire (k.acknowledged + 1 + k.ahead)) where
    -- how far before the number after the newest one it lies
    to_is : wire_distance 256 num (length g.marks + 1) ≡ length k.held - k.ahead
    to_is = omega (arith, length_marks h g k is, is.acknowledged, is.few, is.ahead, next)

    -- A is the number before it
    follows : k.ahead ≡ 0 → may_follow h g (wire_distance 256 num (length g.marks + 1)) num ≡ true
    follows zero = go is.passed
      where
        go : (length is.before ≡ 0) ⊎ (has_resp h k.acknowledged ≡ true) → may_follow h g (wire_distance 256 num (length g.marks + 1)) num ≡ true
        go (inl none) =
            or_either (eqb (wire_distance 256 num (length g.marks + 1)) (length g.marks)) (has_resp h (wire_distance 256 1 num))
            (eq-eqb _ _ (omega (arith, to_is, zero, none, length_marks h g k is)))
        go (inr there) =
            let same : wire_distance 256 1 num ≡ k.acknowledged = omega (arith, next, zero, is.acknowledged) in
            or_last (eqb (wire_distance 256 num (length g.marks + 1)) (length g.marks)) (has_resp h (wire_distance 256 1 num))
            (ap (λ v. has_resp h v) same ∙ there)

    goes : may_go h g (wire_distance 256 num (length g.marks + 1)) num ≡ true
    goes = go is.moved
      where
        go : (length k.held - k.ahead ≡ g.back) ⊎ (k.ahead ≡ 0) → may_go h g (wire_distance 256 num (length g.marks + 1)) num ≡ true
        go (inl same) = or_either (eqb (wire_distance 256 num (length g.marks + 1)) g.back) _ (eq-eqb _ _ (to_is ∙ same))
        go (inr zero) =
            or_last (eqb (wire_distance 256 num (length g.marks + 1)) g.back) _
            (and_from (may_follow h g (wire_distance 256 num (length g.marks + 1)) num) _ (follows zero)
            (and_from (leb (wire_distance 256 num (length g.marks + 1)) g.back || h.nak)
            (leb g.back (wire_distance 256 num (length g.marks + 1)) || h.answered)
            (either_true (leb (wire_distance 256 num (length g.marks + 1)) g.back) h.nak (λ e. le-leb _ _ (omega (arith, to_is, is.unasked e))))
            (either_true (leb g.back (wire_distance 256 num (length g.marks + 1))) h.answered
            (λ e. le-leb _ _ (omega (arith, to_is, (is.unanswered e).1))))))

    new_allowed : k.ahead ≡ length k.held → length k.held < 255 →
        gives_at h g (wire_distance 256 num (length g.marks + 1)) num (mark_of body) ≡ Ok (record { marks = g.marks ++ mark_of body ∷ []; back = 0 })
    new_allowed all room =
        let zero = eq-eqb (wire_distance 256 num (length g.marks + 1)) 0 (omega (arith, to_is, all)) in
        let few = not_both (leb 255 (length g.marks)) h.answered
        (λ e. lt-leb 255 (length g.marks) (omega (arith, length_marks h g k is, (is.unanswered e).0, room))) in
        let may = goes in
        rw (may, zero, few) refl

    -- the mark of what goes again
    same_mark : (packet : HeldPacket L) → slice_get k.held k.ahead ≡ Some packet → body ≡ packet.body →
        get_or g.marks (length is.before + k.ahead) 0 ≡ mark_of body
    same_mark packet at same =
        ap (λ (x : List ℕ). get_or x (length is.before + k.ahead) 0) is.marks ∙ get_or-append-add is.before (map marked k.held) k.ahead 0
        ∙ get_or-map marked k.held k.ahead packet 0 (slice_get_within k.held k.ahead packet at)
        ∙ ap marked (get_or_from_slice_get k.held k.ahead packet packet at) ∙ sym (ap mark_of same)

    again_allowed : (packet : HeldPacket L) → slice_get k.held k.ahead ≡ Some packet → body ≡ packet.body →
        gives_at h g (wire_distance 256 num (length g.marks + 1)) num (mark_of body)
        ≡ Ok (record g { back = wire_distance 256 num (length g.marks + 1) - 1 })
    again_allowed packet at same =
        let within = slice_get_within k.held k.ahead packet at in
        let count = length_marks h g k is in
        let some = ne_eqb (wire_distance 256 num (length g.marks + 1)) 0 (λ e. omega (arith, to_is, within)) in
        let there = le-ltb (length g.marks) (wire_distance 256 num (length g.marks + 1)) (omega (arith, to_is, count)) in
        let place : length g.marks - wire_distance 256 num (length g.marks + 1) ≡ length is.before + k.ahead = omega (arith, to_is, count, within) in
        let mark = eq-eqb (get_or g.marks (length g.marks - wire_distance 256 num (length g.marks + 1)) 0) (mark_of body)
        (ap (λ x. get_or g.marks x 0) place ∙ same_mark packet at same) in
        let may = goes in
        rw (may, some, there, mark) refl

  -- what a data message leaves, and that it is allowed by whatever may have been heard
  pub record Gave (h : Heard) (g : Given) (num : ℕ) (body : List ℕ) (after : StationVariables L) : Type 0 where
    pub given : Given
    pub allowed : (t : Heard) → IsWithin h t → gives_at t g (wire_distance 256 num (length g.marks + 1)) num (mark_of body) ≡ Ok given
    pub is_given : HasGiven h given after

  module _ (h : Heard) (g : Given) (k : StationVariables L) (num : ℕ) (body : List ℕ) (is : HasGiven h g k)
      (next : num ≡ wire (k.acknowledged + 1 + k.ahead)) where
    gave_new : k.ahead ≡ length k.held → length k.held < 255 →
        Gave h g num body (record k { ahead = k.ahead + 1; held = k.held ++ record { body = body; label = None } ∷ [] })
    gave_new all room = record {
      given = record { marks = g.marks ++ mark_of body ∷ []; back = 0 };
      allowed = λ t more. new_allowed t g k num body (given_more h t g k more is) next all room;
      is_given = record {
        running = is.running;
        reached = record { byte = is.reached.byte; reach = is.reached.reach };
        before = is.before;
        marks = ap (λ (x : List ℕ). x ++ mark_of body ∷ []) is.marks ∙ append_assoc is.before (map marked k.held) (mark_of body ∷ [])
            ∙ ap (λ (x : List ℕ). is.before ++ x) (sym (map-append marked k.held (record { body = body; label = None } ∷ [])));
        acknowledged = is.acknowledged;
        few = omega (arith, length-append k.held (record { body = body; label = None } ∷ []), room);
        ahead = omega (arith, length-append k.held (record { body = body; label = None } ∷ []), all);
        passed = is.passed;
        moved = inl (omega (arith, length-append k.held (record { body = body; label = None } ∷ []), all));
        unanswered = λ e. ((is.unanswered e).0, omega arith);
        unasked = λ e. omega (arith, length-append k.held (record { body = body; label = None } ∷ []), all);
      };
    }

    gave_again : (packet : HeldPacket L) → slice_get k.held k.ahead ≡ Some packet → body ≡ packet.body →
        Gave h g num body (record k { ahead = k.ahead + 1 })
    gave_again packet at same =
        let within = slice_get_within k.held k.ahead packet at in
        let to = to_is h g k num body is next in
        record {
          given = record g { back = wire_distance 256 num (length g.marks + 1) - 1 };
          allowed = λ t more. again_allowed t g k num body (given_more h t g k more is) next packet at same;
          is_given = record {
            running = is.running;
            reached = record { byte = is.reached.byte; reach = is.reached.reach };
            before = is.before;
            marks = is.marks;
            acknowledged = is.acknowledged;
            few = is.few;
            ahead = omega (arith, within);
            passed = is.passed;
            moved = inl (omega (arith, to));
            unanswered = λ e. ((is.unanswered e).0, omega (arith, to));
            unasked = λ e. omega (arith, to);
          };
        }

    gave_by : (b : Bool) → wire_is_new k ≡ b → cond b (ltb (length k.held) WINDOW) true ≡ true →
        cond b true (is_held_packet (slice_get k.held k.ahead) body) ≡ true →
        Gave h g num body (record k { ahead = k.ahead + 1; held = with_new b k.held body })
    gave_by true new room same = gave_new (eqb-true k.ahead (length k.held) new) (ltb-true (length k.held) 255 room)
    gave_by false old room same = go (slice_get k.held k.ahead) refl same
      where
        go : (o : Option (HeldPacket L)) → slice_get k.held k.ahead ≡ o → is_held_packet o body ≡ true →
            Gave h g num body (record k { ahead = k.ahead + 1 })
        go None at e = absurd cc
        go (Some packet) at e = gave_again packet at ((bytes_eq-Decides body packet.body).0 e)

  -- ---- the checks of a message

  module _ (w : WireStation L) where
    abbrev pub MaySend : MessageValue → Type 0
    MaySend m = failed (wire_passes w m) (checks w.variables.state m) ≡ None

    abbrev pub k : StationVariables L
    k = w.variables

    passes_of : (m : MessageValue) → is_numbered m ≡ true → MaySend m → ArePassed (wire_passes w m) (listed (checks Running m))
    passes_of m numbered may = checks_passed (wire_passes w m) w.variables.state m numbered may

    pub resp_of_ack : (flags : _) (resp : ℕ) → MaySend (Ack flags resp) → resp ≡ w.variables.received
    resp_of_ack flags resp may = eqb-true resp w.variables.received (passes_of (Ack flags resp) refl may).0

    pub resp_of_nak : (flags reason : _) (resp : ℕ) → MaySend (Nak flags reason resp) → resp ≡ w.variables.received
    resp_of_nak flags reason resp may = eqb-true resp w.variables.received (passes_of (Nak flags reason resp) refl may).0

    -- a REP asks for the highest number, and a number is outstanding
    pub rep_parts : (flags : _) (num : ℕ) → MaySend (Rep flags num) →
        (length w.variables.held ≡ 0 → ⊥) × (num ≡ wire (w.variables.acknowledged + length w.variables.held))
    rep_parts flags num may =
        let p = passes_of (Rep flags num) refl may in (
          eqb-false (length w.variables.held) 0 (not-true (eqb (length w.variables.held) 0) p.0),
          eqb-true num (wire (w.variables.acknowledged + length w.variables.held)) p.1.0,
        )

    module _ (flags : _) (resp num : ℕ) (body : List ℕ) (may : MaySend (Data flags resp num body)) where
      pub data_next : num ≡ wire (w.variables.acknowledged + 1 + w.variables.ahead)
      data_next = eqb-true num (wire (w.variables.acknowledged + 1 + w.variables.ahead)) (passes_of (Data flags resp num body) refl may).0

      pub data_resp : resp ≡ w.variables.received
      data_resp = eqb-true resp w.variables.received (passes_of (Data flags resp num body) refl may).1.0

      pub gave : (h : Heard) (g : Given) → HasGiven h g w.variables → Gave h g num body (sends_packet w.variables body)
      gave h g is =
          let p = passes_of (Data flags resp num body) refl may in
          gave_by h g w.variables num body is data_next (wire_is_new w.variables) refl p.1.1.0 p.1.1.1.0
