-- What a station of the player owes stays payable with one thing more, and where a record leaves its causes open.
use Rattle.dna_play.proofs.Prelude.{◌≡◌, ◌+◌, Bool, true, false, cond, Option, Some, None, refl, sym, ◌∙◌, arith, lt-ltb, and_parts, not-true}
use Rattle.dna_play.proofs.Prelude.{NakReason, HeaderCheck, DataCheck, RepResponse, NoBuffer, State, Causes, with_cause, has_cause, without_cause}
use Rattle.dna_play.proofs.Prelude.{StationVariables, Owed, Debt, OwesStrt, OwesStack, OwesAck, OwesRep, OwesNak, with_nak, with_debt, same_state}
use Rattle.dna_play.proofs.Prelude.{all_acknowledged, timer_debt, still_owed}
use Rattle.dna_station.specs.declared.state.State.TheVariants.{Running}
use Rattle.dna_play.specs.Owed.{nothing, unless_left}
use Rattle.dna_play.proofs.Ends.StationPays.{owes_nak, IsPayable}

-- ---- causes

-- each that was open is open
abbrev pub StayOpen : Causes → Causes → Type 0
StayOpen c d = (reason : NakReason) → has_cause reason c ≡ true → has_cause reason d ≡ true

pub one_more : (added : NakReason) (c : Causes) → StayOpen c (with_cause added c)
one_more HeaderCheck c HeaderCheck e = lt-ltb 0 (c.header_check + 1) (omega arith)
one_more DataCheck c DataCheck e = lt-ltb 0 (c.data_check + 1) (omega arith)
one_more RepResponse c RepResponse e = lt-ltb 0 (c.rep_response + 1) (omega arith)
one_more NoBuffer c NoBuffer e = lt-ltb 0 (c.no_buffer + 1) (omega arith)
one_more added c reason e = e

pub now_open : (reason : NakReason) (c : Causes) → has_cause reason (with_cause reason c) ≡ true
now_open HeaderCheck c = lt-ltb 0 (c.header_check + 1) (omega arith)
now_open DataCheck c = lt-ltb 0 (c.data_check + 1) (omega arith)
now_open RepResponse c = lt-ltb 0 (c.rep_response + 1) (omega arith)
now_open NoBuffer c = lt-ltb 0 (c.no_buffer + 1) (omega arith)
now_open reason c = refl

-- ---- NAKs among what is owed

-- the rest is aside
aside : (reason : NakReason) (owed : Owed) (strt stack ack rep : Bool) →
    owes_nak reason (record owed { strt = strt; stack = stack; ack = ack; rep = rep }) ≡ owes_nak reason owed
aside HeaderCheck owed strt stack ack rep = refl
aside reason owed strt stack ack rep = refl

pub none_owed : (reason : NakReason) → owes_nak reason nothing ≡ false
none_owed HeaderCheck = refl
none_owed reason = refl

-- one that is sent uses up a cause of its own reason alone
pub used_up : (used reason : NakReason) (c : Causes) (owed : Owed) → (owes_nak reason owed ≡ true → has_cause reason c ≡ true) →
    owes_nak reason (with_nak used false owed) ≡ true → has_cause reason (without_cause used c) ≡ true
used_up HeaderCheck HeaderCheck c owed p e = absurd cc
used_up DataCheck DataCheck c owed p e = absurd cc
used_up RepResponse RepResponse c owed p e = absurd cc
used_up NoBuffer NoBuffer c owed p e = absurd cc
used_up used reason c owed p e = p e

-- one more
nak_added : (added reason : NakReason) (c : Causes) (owed : Owed) → has_cause added c ≡ true →
    (owes_nak reason owed ≡ true → has_cause reason c ≡ true) → owes_nak reason (with_nak added true owed) ≡ true → has_cause reason c ≡ true
nak_added HeaderCheck HeaderCheck c owed has p e = has
nak_added DataCheck DataCheck c owed has p e = has
nak_added RepResponse RepResponse c owed has p e = has
nak_added NoBuffer NoBuffer c owed has p e = has
nak_added added reason c owed has p e = p e

pub rep_aside : (reason : NakReason) (b : Bool) (owed : Owed) → (with_nak reason b owed).rep ≡ owed.rep
rep_aside HeaderCheck b owed = refl
rep_aside reason b owed = refl

module _ {L : Type 0} where
  -- ---- after every record

  pub still : (k v : StationVariables L) (c d : Causes) (owed : Owed) → (same_state k.state v.state ≡ true → StayOpen c d) → IsPayable k c owed →
      IsPayable v d (still_owed k v owed)
  still k v c d owed has p = record {
    nak = λ reason e. go (same_state k.state v.state) refl reason (sym (aside reason left left.strt left.stack left.ack _) ∙ e);
    rep = λ e. not-true _ (and_parts _ _ e).1;
  }
    where
      left : Owed
      left = unless_left (same_state k.state v.state) owed

      go : (b : Bool) → same_state k.state v.state ≡ b → (reason : NakReason) → owes_nak reason (unless_left b owed) ≡ true →
          has_cause reason d ≡ true
      go true same reason e = has same reason (p.nak reason e)
      go false same reason e = let f = none_owed reason in absurd cc

  -- with less of the rest
  pub lessened : (v : StationVariables L) (d : Causes) (owed : Owed) (strt stack ack rep : Bool) → (rep ≡ true → owed.rep ≡ true) →
      IsPayable v d owed →
      IsPayable v d (record owed { strt = strt; stack = stack; ack = ack; rep = rep })
  lessened v d owed strt stack ack rep less p =
      record { nak = λ reason e. p.nak reason (sym (aside reason owed strt stack ack rep) ∙ e); rep = λ e. p.rep (less e) }

  -- what is newly owed can be paid: a NAK has an open cause, and for a REP a packet is outstanding
  abbrev pub CanPay : StationVariables L → Causes → Option Debt → Type 0
  CanPay v d (Some OwesRep) = all_acknowledged v ≡ false
  CanPay v d (Some (OwesNak reason)) = has_cause reason d ≡ true
  CanPay v d debt = Unit {0}

  -- with one thing more
  pub debt_pays : (v : StationVariables L) (d : Causes) (owed : Owed) (debt : Option Debt) → CanPay v d debt → IsPayable v d owed →
      IsPayable v d (with_debt debt owed)
  debt_pays v d owed None can p = p
  debt_pays v d owed (Some OwesStrt) can p = lessened v d owed true owed.stack owed.ack owed.rep (λ e. e) p
  debt_pays v d owed (Some OwesStack) can p = lessened v d owed owed.strt true owed.ack owed.rep (λ e. e) p
  debt_pays v d owed (Some OwesAck) can p = lessened v d owed owed.strt owed.stack true owed.rep (λ e. e) p
  debt_pays v d owed (Some OwesRep) can p =
      record { nak = λ reason e. p.nak reason (sym (aside reason owed owed.strt owed.stack owed.ack true) ∙ e); rep = λ e. can }
  debt_pays v d owed (Some (OwesNak reason)) can p =
      record { nak = λ other e. nak_added reason other d owed can (p.nak other) e; rep = λ e. p.rep (sym (rep_aside reason true owed) ∙ e) }

  -- the timer runs out
  pub timer_pays : (k : StationVariables L) (c : Causes) (owed : Owed) (state : State) → IsPayable k c owed →
      IsPayable k c (with_debt (timer_debt state k) owed)
  timer_pays k c owed state p = debt_pays k c owed (timer_debt state k) (can state) p
    where
      answers : (b : Bool) → all_acknowledged k ≡ b → CanPay k c (Some (cond b OwesAck OwesRep))
      answers true is = tt
      answers false is = is

      can : (state : State) → CanPay k c (timer_debt state k)
      can Running = answers (all_acknowledged k) refl
      can state = tt
