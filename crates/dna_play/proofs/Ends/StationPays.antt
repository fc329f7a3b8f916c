-- What an end of the player chooses to send as a station it may send: each NAK that it owes has an open cause, and it owes a REP only while a
-- packet is outstanding.
use Rattle.dna_play.proofs.Prelude.{◌≡◌, ◌+◌, Bool, true, false, cond, nat_lt, Option, Some, None, List, length, refl, subst, eq-eqb, slice_get}
use Rattle.dna_play.proofs.Prelude.{IfSome, bytes_eq-Decides, MessageValue, Ack, Nak, Rep, Strt, Stack, NakReason, HeaderCheck, DataCheck}
use Rattle.dna_play.proofs.Prelude.{RepResponse, NoBuffer, NspValue, Head, State, Halted, Istrt, Astrt, Causes, has_cause, WINDOW, checks, failed}
use Rattle.dna_play.proofs.Prelude.{wire, HeldPacket, StationVariables, WireStation, wire_is_new, wire_passes, wire_sending_refusal, Owed}
use Rattle.dna_play.proofs.Prelude.{all_acknowledged, LinkEnd, LinkChoice, Choice, SendStrt, SendStack, SendNak, SendRep, SendAgain, SendNew}
use Rattle.dna_play.proofs.Prelude.{SendAck, when, or_else, lowest_nak, new_packet, data_choice, choice_in, choice, no_flags, data_with}
use Rattle.dna_play.proofs.Prelude.{packet_again, new_data, link_message, message_of, packet_with, start_flags}
use Rattle.dna_station.specs.declared.state.State.TheVariants.{Running}

-- whether a NAK of this reason is owed
abbrev pub owes_nak : NakReason → Owed → Bool
owes_nak HeaderCheck owed = owed.header_check
owes_nak DataCheck owed = owed.data_check
owes_nak RepResponse owed = owed.rep_response
owes_nak NoBuffer owed = owed.no_buffer
owes_nak reason owed = false

-- what is owed can be paid
pub record IsPayable {L : Type 0} (k : StationVariables L) (causes : Causes) (owed : Owed) : Type 0 where
  pub nak : (reason : NakReason) → owes_nak reason owed ≡ true → has_cause reason causes ≡ true
  pub rep : owed.rep ≡ true → all_acknowledged k ≡ false

-- ---- what a choice says of its station

pub data IsChosen {L : Type 0} (k : StationVariables L) (owed : Owed) (asked : Option LinkChoice) : State → Choice → Type 0 where
  ByStrt : owed.strt ≡ true → IsChosen k owed asked Istrt SendStrt
  ByStack : owed.stack ≡ true → IsChosen k owed asked Astrt SendStack
  ByNak : (reason : NakReason) → owes_nak reason owed ≡ true → IsChosen k owed asked Running (SendNak reason)
  ByRep : owed.rep ≡ true → IsChosen k owed asked Running SendRep
  ByAgain : wire_is_new k ≡ false → IsChosen k owed asked Running SendAgain
  ByNew : (message : LinkChoice) → wire_is_new k ≡ true → nat_lt (length k.held) WINDOW ≡ true → asked ≡ Some message →
      IsChosen k owed asked Running (SendNew message)
  ByAck : owed.ack ≡ true → IsChosen k owed asked Running SendAck

module _ {L : Type 0} (k : StationVariables L) (owed : Owed) (asked : Option LinkChoice) where
  -- of what may be chosen in a state
  abbrev AreChosen : State → Option Choice → Type 0
  AreChosen state o = IfSome o (IsChosen k owed asked state)

  either_chosen : (state : State) (b : Bool) (x y : Option Choice) → (b ≡ true → AreChosen state x) → (b ≡ false → AreChosen state y) →
      AreChosen state (cond b x y)
  either_chosen state true x y p q = p refl
  either_chosen state false x y p q = q refl

  when_chosen : (state : State) (b : Bool) (x : Choice) → (b ≡ true → IsChosen k owed asked state x) → AreChosen state (when b x)
  when_chosen state true x p = p refl
  when_chosen state false x p = tt

  else_chosen : (first next : Option Choice) → AreChosen Running first → AreChosen Running next → AreChosen Running (or_else first next)
  else_chosen None next p q = q
  else_chosen (Some x) next p q = p

  nak_or : (reason : NakReason) (next : Option Choice) → AreChosen Running next →
      AreChosen Running (cond (owes_nak reason owed) (Some (SendNak reason)) next)
  nak_or reason next q = either_chosen Running (owes_nak reason owed) _ next (λ is. ByNak reason is) (λ is. q)

  message_chosen : (o : Option LinkChoice) → asked ≡ o → wire_is_new k ≡ true → nat_lt (length k.held) WINDOW ≡ true →
      AreChosen Running (new_packet o)
  message_chosen None is new room = tt
  message_chosen (Some m) is new room = ByNew m new room is

  data_chosen : AreChosen Running (data_choice k asked)
  data_chosen = either_chosen Running (wire_is_new k) _ (Some SendAgain)
      (λ new. either_chosen Running (nat_lt (length k.held) WINDOW) (new_packet asked) None (message_chosen asked refl new) (λ full. tt))
      (λ old. ByAgain old)

  all_chosen : (state : State) → AreChosen state (choice_in state k owed asked)
  all_chosen Halted = tt
  all_chosen Istrt = when_chosen Istrt owed.strt SendStrt (λ is. ByStrt is)
  all_chosen Astrt = when_chosen Astrt owed.stack SendStack (λ is. ByStack is)
  all_chosen Running =
      else_chosen (lowest_nak owed) _ (nak_or HeaderCheck _ (nak_or DataCheck _ (nak_or RepResponse _ (nak_or NoBuffer None tt))))
      (else_chosen (when owed.rep SendRep) _ (when_chosen Running owed.rep SendRep (λ is. ByRep is))
      (else_chosen (data_choice k asked) _ data_chosen (when_chosen Running owed.ack SendAck (λ is. ByAck is))))

  pub chosen : (c : Choice) (state : State) → choice_in state k owed asked ≡ Some c → IsChosen k owed asked state c
  chosen c state e = subst (AreChosen state) e (all_chosen state)

-- ---- what is put together by a choice

pub data IsPut {L : Type 0} (k : StationVariables L) (head : Head) (links : List LinkEnd) : Choice → MessageValue → Type 0 where
  PutStrt : IsPut k head links SendStrt (Strt start_flags)
  PutStack : IsPut k head links SendStack (Stack start_flags)
  PutNak : (reason : NakReason) → IsPut k head links (SendNak reason) (Nak no_flags reason k.received)
  PutRep : IsPut k head links SendRep (Rep no_flags (wire (k.acknowledged + length k.held)))
  PutAgain : (packet : HeldPacket L) → slice_get k.held k.ahead ≡ Some packet → IsPut k head links SendAgain (data_with k packet.body)
  PutNew : (one : LinkChoice) (message : NspValue) → link_message one links ≡ Some message →
      IsPut k head links (SendNew one) (data_with k (packet_with head message))
  PutAck : IsPut k head links SendAck (Ack no_flags k.received)

module _ {L : Type 0} (k : StationVariables L) (head : Head) (links : List LinkEnd) where
  abbrev ArePut : Choice → Option MessageValue → Type 0
  ArePut c o = IfSome o (IsPut k head links c)

  all_put : (c : Choice) → ArePut c (message_of c head k links)
  all_put SendStrt = PutStrt
  all_put SendStack = PutStack
  all_put (SendNak reason) = PutNak reason
  all_put SendRep = PutRep
  all_put SendAgain = go (slice_get k.held k.ahead) refl
    where
      go : (o : Option (HeldPacket L)) → slice_get k.held k.ahead ≡ o → ArePut SendAgain (packet_again k o)
      go None there = tt
      go (Some packet) there = PutAgain packet there
  all_put (SendNew one) = go (link_message one links) refl
    where
      go : (o : Option NspValue) → link_message one links ≡ o → ArePut (SendNew one) (new_data k head o)
      go None there = tt
      go (Some message) there = PutNew one message there
  all_put SendAck = PutAck

  pub put_is : (m : MessageValue) (c : Choice) → message_of c head k links ≡ Some m → IsPut k head links c m
  put_is m c e = subst (ArePut c) e (all_put c)

-- ---- it may be sent

module _ {L : Type 0} (w : WireStation L) (owed : Owed) (asked : Option LinkChoice) (payable : IsPayable w.variables w.causes owed) (head : Head)
    (links : List LinkEnd) where
  abbrev k : StationVariables L
  k = w.variables

  abbrev MaySend : State → MessageValue → Type 0
  MaySend state m = failed (wire_passes w m) (checks state m) ≡ None

  choice_may : (state : State) (c : Choice) (m : MessageValue) → IsChosen k owed asked state c → IsPut k head links c m → MaySend state m
  choice_may state c m (ByStrt is) PutStrt = refl
  choice_may state c m (ByStack is) PutStack = refl
  choice_may state c m (ByNak reason is) (PutNak _) = rw (eq-eqb k.received k.received refl, payable.nak reason is) refl
  choice_may state c m (ByRep is) PutRep =
      let highest = wire (k.acknowledged + length k.held) in rw (payable.rep is, eq-eqb highest highest refl) refl
  choice_may state c m (ByAgain old) (PutAgain packet there) =
      let next = wire (k.acknowledged + 1 + k.ahead) in
      rw (eq-eqb next next refl, eq-eqb k.received k.received refl, old, there, (bytes_eq-Decides packet.body packet.body).1 refl) refl
  choice_may state c m (ByNew one new room is) (PutNew _ message put) =
      let next = wire (k.acknowledged + 1 + k.ahead) in rw (eq-eqb next next refl, eq-eqb k.received k.received refl, new, room) refl
  choice_may state c m (ByAck is) PutAck = rw (eq-eqb k.received k.received refl) refl

  -- what is chosen and put together, the station may send
  pub chosen_may : (c : Choice) (m : MessageValue) → choice k owed asked ≡ Some c → message_of c head k links ≡ Some m →
      wire_sending_refusal w m ≡ None
  chosen_may c m is e = choice_may k.state c m (chosen k owed asked c k.state is) (put_is k head links m c e)
