-- What a station of the player owes stays payable, whatever its user does, whatever it sends of what is owed, and whatever comes.
use Rattle.dna_play.proofs.Prelude.{◌≡◌, ℕ, ◌+◌, Bool, true, false, ◌&&◌, not, cond, eqb, nat_lt, nat_le, Option, Some, List, [], ◌∷◌, length, fold}
use Rattle.dna_play.proofs.Prelude.{refl, sym, ap, ◌∙◌, and_parts, MessageValue, Data, Nak, Rep, Strt, Flags, NakReason, RepResponse, NoBuffer}
use Rattle.dna_play.proofs.Prelude.{Head, State, Halted, Istrt, Astrt, Tag, Causes, with_cause, has_cause, Effect, Respond, TakePacket, AnswerRep}
use Rattle.dna_play.proofs.Prelude.{row, counts_damage, Sound, num_of, resp_of, has_packet, wire, StationVariables, WireStation, wire_after_event}
use Rattle.dna_play.proofs.Prelude.{acknowledges, wire_acknowledged_by, wire_responded, wire_is_next, wire_does, wire_book, wire_after_sending}
use Rattle.dna_play.proofs.Prelude.{wire_after_arrival, Owed, Debt, OwesNak, with_debt, data_debt, rep_debt, damage_debt, same_state, can_take}
use Rattle.dna_play.proofs.Prelude.{message_debt, still_owed, LinkEnd, Choice, SendNak, after_choice, no_flags, packet_with, message_of}
use Rattle.dna_play.proofs.Prelude.{kept_by_all}
use Rattle.dna_station.specs.declared.state.State.TheVariants.{Running}
use Rattle.dna_station.specs.declared.state.StationEvent.TheVariants as events
use Rattle.dna_play.proofs.Ends.StationPays.{IsPayable, IsPut, PutStrt, PutStack, PutNak, PutRep, PutAgain, PutNew, PutAck, put_is}
use Rattle.dna_play.proofs.Ends.OwedPays.{StayOpen, one_more, now_open, used_up, rep_aside, still, lessened, CanPay, debt_pays}

module _ {L : Type 0} where
  -- ---- the user

  module _ (w : WireStation L) (owed : Owed) (p : IsPayable w.variables w.causes owed) where
    abbrev k : StationVariables L
    k = w.variables

    abbrev Pays : WireStation L → Owed → Type 0
    Pays v o = IsPayable v.variables v.causes o

    pub start_pays : k.state ≡ Halted → Pays (wire_after_event w events.Start) (still_owed k (wire_after_event w events.Start).variables owed)
    start_pays is = still k (wire_after_event w events.Start).variables w.causes _ owed
        (λ e. let f = ap (λ (s : State). same_state s Istrt) is in absurd cc) p

    pub halt_pays : Pays (wire_after_event w events.Halt) (still_owed k (wire_after_event w events.Halt).variables owed)
    halt_pays = still k (wire_after_event w events.Halt).variables w.causes w.causes owed (λ same reason e. e) p

    -- nothing becomes of it
    pub same_pays : Pays w (still_owed k k owed)
    same_pays = still k k w.causes w.causes owed (λ same reason e. e) p

    -- ---- a sending

    nak_pays : (reason : NakReason) (flags : Flags) (resp : ℕ) →
        Pays (wire_after_sending w (Nak flags reason resp)) (after_choice (SendNak reason) (still_owed k k owed))
    nak_pays reason flags resp =
        let o = still_owed k k owed in
        let q = lessened k w.causes o o.strt o.stack false o.rep (λ e. e) same_pays in
        record {
          nak = λ other e. used_up reason other w.causes (record o { ack = false }) (q.nak other) e;
          rep = λ e. q.rep
              (sym (rep_aside reason false (record o { ack = false })) ∙ e);
        }

    data_pays : (flags : Flags) (resp num : ℕ) (body : List ℕ) →
        let v = wire_after_sending w (Data flags resp num body) in Pays v (record (still_owed k v.variables owed) { ack = false })
    data_pays flags resp num body =
        let v = wire_after_sending w (Data flags resp num body) in
        let o = still_owed k v.variables owed in
        lessened v.variables v.causes o o.strt o.stack false o.rep (λ e. e) (still k v.variables w.causes v.causes owed (λ same reason e. e) p)

    -- what is put together by a choice
    put_pays : (c : Choice) (head : Head) (links : List LinkEnd) (m : MessageValue) → IsPut k head links c m →
        let v = wire_after_sending w m in Pays v (after_choice c (still_owed k v.variables owed))
    put_pays c head links m PutStrt = let o = still_owed k k owed in lessened k w.causes o false o.stack o.ack o.rep (λ r. r) same_pays
    put_pays c head links m PutStack = let o = still_owed k k owed in lessened k w.causes o o.strt false o.ack o.rep (λ r. r) same_pays
    put_pays c head links m (PutNak reason) = nak_pays reason no_flags k.received
    put_pays c head links m PutRep = let o = still_owed k k owed in lessened k w.causes o o.strt o.stack o.ack false (λ r. absurd cc) same_pays
    put_pays c head links m (PutAgain packet there) = data_pays no_flags k.received (wire (k.acknowledged + 1 + k.ahead)) packet.body
    put_pays c head links m (PutNew one message put) = data_pays no_flags k.received (wire (k.acknowledged + 1 + k.ahead)) (packet_with head message)
    put_pays c head links m PutAck = let o = still_owed k k owed in lessened k w.causes o o.strt o.stack false o.rep (λ r. r) same_pays

    pub choice_pays : (c : Choice) (head : Head) (links : List LinkEnd) (m : MessageValue) → message_of c head k links ≡ Some m →
        let v = wire_after_sending w m in Pays v (after_choice c (still_owed k v.variables owed))
    choice_pays c head links m e = put_pays c head links m (put_is k head links m c e)

    -- ---- something comes

    module _ (m : MessageValue) (tag : Tag) (kept : Bool) where
      abbrev comes : WireStation L → Effect → WireStation L
      comes v effect = wire_does m tag kept v effect

      either_open : (reason : NakReason) (b : Bool) (c d : Causes) → has_cause reason c ≡ true → has_cause reason d ≡ true →
          has_cause reason (cond b c d) ≡ true
      either_open reason true c d e f = e
      either_open reason false c d e f = f

      -- no cause is closed
      effect_opens : (v : WireStation L) (effect : Effect) → StayOpen v.causes (comes v effect).causes
      effect_opens v TakePacket reason e =
          either_open reason (wire_is_next v.variables (num_of m) && not kept) _ v.causes (one_more NoBuffer v.causes reason e) e
      effect_opens v AnswerRep reason e =
          either_open reason (eqb (num_of m) v.variables.received) v.causes _ e (one_more RepResponse v.causes reason e)
      effect_opens v effect reason e = e

      all_open : (effects : List Effect) (v : WireStation L) → StayOpen v.causes (fold comes v effects).causes
      all_open effects v reason e = kept_by_all (λ (x : WireStation L). has_cause reason x.causes ≡ true) comes
          (λ x effect f. effect_opens x effect reason f) effects v e

      -- a packet that is the next and is not kept opens one
      response_same : (v : WireStation L) → (wire_responded v.variables (resp_of m)).received ≡ v.variables.received
      response_same v = go (nat_lt 0 (acknowledges v.variables (resp_of m)) && nat_le (acknowledges v.variables (resp_of m))
          (length v.variables.held))
        where
          go : (b : Bool) → (wire_acknowledged_by b v.variables (resp_of m)).received ≡ v.variables.received
          go true = refl
          go false = refl

      not_kept_opens : kept ≡ false → (effects : List Effect) (v : WireStation L) → has_packet effects ≡ true →
          wire_is_next v.variables (num_of m) ≡ true → has_cause NoBuffer (fold comes v effects).causes ≡ true
      not_kept_opens none [] v has next = absurd cc
      not_kept_opens none (TakePacket ∷ later) v has next =
          all_open later (comes v TakePacket) NoBuffer (rw (next, none) (now_open NoBuffer v.causes))
      not_kept_opens none (Respond ∷ later) v has next =
          not_kept_opens none later (comes v Respond) has (rw (response_same v) next)
      not_kept_opens none (effect ∷ later) v has next = not_kept_opens none later (comes v effect) has next

      -- ---- what is newly owed for it

      abbrev Can : Option Debt → Type 0
      Can debt = let v = wire_after_arrival w (Sound m tag) kept in CanPay v.variables v.causes debt

      data_can : (b now : Bool) → (b ≡ true → now ≡ false → Can (Some (OwesNak NoBuffer))) → Can (data_debt b now)
      data_can true true has = tt
      data_can true false has = has refl refl
      data_can false now has = tt

      rep_can : (b : Bool) → (b ≡ false → Can (Some (OwesNak RepResponse))) → Can (Some (rep_debt b))
      rep_can true has = tt
      rep_can false has = has refl

      taken_opens : can_take k m ≡ true → kept ≡ false → Can (Some (OwesNak NoBuffer))
      taken_opens can none = let parts = and_parts _ _ can in not_kept_opens none (row k.state m).effects w parts.0 parts.1

    message_can : (state : State) → k.state ≡ state → (m : MessageValue) (tag : Tag) (kept : Bool) → Can m tag kept (message_debt state k m kept)
    message_can Istrt is (Strt flags) tag kept = tt
    message_can Astrt is (Data flags resp num body) tag kept =
        let m = Data flags resp num body in data_can m tag kept (can_take k m) kept (taken_opens m tag kept)
    message_can Running is (Data flags resp num body) tag kept =
        let m = Data flags resp num body in data_can m tag kept (can_take k m) kept (taken_opens m tag kept)
    message_can Running is (Rep flags num) tag kept = rep_can (Rep flags num) tag kept (eqb num k.received)
        (λ other. rw (is, other) (now_open RepResponse w.causes))
    message_can state is m tag kept = tt

    -- a sound message
    pub sound_pays : (m : MessageValue) (tag : Tag) (kept : Bool) →
        let v = wire_after_arrival w (Sound m tag) kept in Pays v (with_debt (message_debt k.state k m kept) (still_owed k v.variables owed))
    sound_pays m tag kept =
        let v = wire_after_arrival w (Sound m tag) kept in
        debt_pays v.variables v.causes (still_owed k v.variables owed) (message_debt k.state k m kept)
        (message_can k.state refl m tag kept)
        (still k v.variables w.causes v.causes owed (λ same reason e. all_open m tag kept (row k.state m).effects w reason e) p)

    -- damage
    pub damaged_pays : (reason : NakReason) (state : State) → let v = cond (counts_damage state) (wire_book.counts reason w) w in
        Pays v (with_debt (damage_debt state reason) (still_owed k v.variables owed))
    damaged_pays reason Running = debt_pays k (with_cause reason w.causes) (still_owed k k owed) (Some (OwesNak reason)) (now_open reason w.causes)
        (still k k w.causes (with_cause reason w.causes) owed (λ same other f. one_more reason w.causes other f) p)
    damaged_pays reason state = same_pays
