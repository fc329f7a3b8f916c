-- The book of counts goes by no flags and by no packet.
use Rattle.std.proofs.Common.{◌≡◌, ℕ, ◌+◌, Bool, eqb, List, [], ◌∷◌, refl, ap, ◌∙◌, fold}
use Rattle.ddcmp_msg.specs.Message.{MessageValue, Data, Ack, Nak, Rep, Strt, Stack}
use Rattle.dna_station.specs.declared.state.State.{State}
use Rattle.dna_station.specs.declared.state.State.TheVariants.{Halted, Istrt, Astrt, Running}
use Rattle.dna_station.specs.declared.tag.Tag.{Tag}
use Rattle.dna_station.specs.Table.{Check, RespIsLast, CauseIsOpen, SomeOutstanding, NumIsHighest, NumIsNext, RoomIfNew, AsFirstGiven, checks}
use Rattle.dna_station.specs.Table.{Effect, GoTo, TakePartner, Respond, SetBack, TakePacket, AnswerRep, row, Row}
use Rattle.dna_station.specs.PeriodRule.{PeriodRule}
use Rattle.dna_station.specs.Station.{wire}
use Rattle.dna_station.specs.Book.{Sound, resp_of, num_of, failed, sending_refusal_by, after_sending_by, arrival_refusal_by, after_arrival_by}
use Rattle.dna_station.proofs.Cut.Sending.{failed_same}
use Rattle.placing.specs.declared.station.Station.{Station}
use Rattle.placing.specs.Counted.{counted_book, bare}
use Rattle.placing.specs.Counted as book

resp_bare : (m : MessageValue) → resp_of (bare m) ≡ resp_of m
resp_bare (Data flags resp num body) = refl
resp_bare (Ack flags resp) = refl
resp_bare (Nak flags reason resp) = refl
resp_bare (Rep flags num) = refl
resp_bare (Strt flags) = refl
resp_bare (Stack flags) = refl

num_bare : (m : MessageValue) → num_of (bare m) ≡ num_of m
num_bare (Data flags resp num body) = refl
num_bare (Ack flags resp) = refl
num_bare (Nak flags reason resp) = refl
num_bare (Rep flags num) = refl
num_bare (Strt flags) = refl
num_bare (Stack flags) = refl

nak_bare : (m : MessageValue) (s : Station) → book.may_nak (bare m) s ≡ book.may_nak m s
nak_bare (Data flags resp num body) s = refl
nak_bare (Ack flags resp) s = refl
nak_bare (Nak flags reason resp) s = refl
nak_bare (Rep flags num) s = refl
nak_bare (Strt flags) s = refl
nak_bare (Stack flags) s = refl

checks_bare : (state : State) (m : MessageValue) → checks state (bare m) ≡ checks state m
checks_bare Halted m = refl
checks_bare Istrt (Data flags resp num body) = refl
checks_bare Istrt (Ack flags resp) = refl
checks_bare Istrt (Nak flags reason resp) = refl
checks_bare Istrt (Rep flags num) = refl
checks_bare Istrt (Strt flags) = refl
checks_bare Istrt (Stack flags) = refl
checks_bare Astrt (Data flags resp num body) = refl
checks_bare Astrt (Ack flags resp) = refl
checks_bare Astrt (Nak flags reason resp) = refl
checks_bare Astrt (Rep flags num) = refl
checks_bare Astrt (Strt flags) = refl
checks_bare Astrt (Stack flags) = refl
checks_bare Running (Data flags resp num body) = refl
checks_bare Running (Ack flags resp) = refl
checks_bare Running (Nak flags reason resp) = refl
checks_bare Running (Rep flags num) = refl
checks_bare Running (Strt flags) = refl
checks_bare Running (Stack flags) = refl

row_bare : (state : State) (m : MessageValue) → row state (bare m) ≡ row state m
row_bare Halted m = refl
row_bare Istrt (Data flags resp num body) = refl
row_bare Istrt (Ack flags resp) = refl
row_bare Istrt (Nak flags reason resp) = refl
row_bare Istrt (Rep flags num) = refl
row_bare Istrt (Strt flags) = refl
row_bare Istrt (Stack flags) = refl
row_bare Astrt (Data flags resp num body) = refl
row_bare Astrt (Ack flags resp) = refl
row_bare Astrt (Nak flags reason resp) = refl
row_bare Astrt (Rep flags num) = refl
row_bare Astrt (Strt flags) = refl
row_bare Astrt (Stack flags) = refl
row_bare Running (Data flags resp num body) = refl
row_bare Running (Ack flags resp) = refl
row_bare Running (Nak flags reason resp) = refl
row_bare Running (Rep flags num) = refl
row_bare Running (Strt flags) = refl
row_bare Running (Stack flags) = refl

module _ (again : Bool) (s : Station) where
  passes_bare : (m : MessageValue) (check : Check) → book.passes again s (bare m) check ≡ book.passes again s m check
  passes_bare m RespIsLast = ap (λ (resp : ℕ). eqb resp s.received) (resp_bare m)
  passes_bare m CauseIsOpen = nak_bare m s
  passes_bare m SomeOutstanding = refl
  passes_bare m NumIsHighest = ap (λ (num : ℕ). eqb num (wire (s.acknowledged + s.outstanding))) (num_bare m)
  passes_bare m NumIsNext = ap (λ (num : ℕ). eqb num (wire (s.acknowledged + 1 + s.ahead))) (num_bare m)
  passes_bare m RoomIfNew = refl
  passes_bare m AsFirstGiven = refl

  pub refusal_bare : (m : MessageValue) → sending_refusal_by (counted_book again) s (bare m) ≡ sending_refusal_by (counted_book again) s m
  refusal_bare m =
      failed_same (book.passes again s (bare m)) (book.passes again s m) (passes_bare m) (checks s.state (bare m))
      ∙ ap (failed (book.passes again s m)) (checks_bare s.state m)

  pub sending_bare : (m : MessageValue) → after_sending_by (counted_book again) s (bare m) ≡ after_sending_by (counted_book again) s m
  sending_bare (Data flags resp num body) = refl
  sending_bare (Ack flags resp) = refl
  sending_bare (Nak flags reason resp) = refl
  sending_bare (Rep flags num) = refl
  sending_bare (Strt flags) = refl
  sending_bare (Stack flags) = refl

  -- ---- what comes

  pub coming_bare : (rule : PeriodRule) (m : MessageValue) (tag : Tag) (kept : Bool) →
      arrival_refusal_by (counted_book again) rule s (Sound (bare m) tag) kept ≡ arrival_refusal_by (counted_book again) rule s (Sound m tag) kept
  coming_bare rule m tag kept = rw (row_bare s.state m, num_bare m) refl

does_bare : (m : MessageValue) (tag : Tag) (kept : Bool) (s : Station) (effect : Effect) →
    book.does (bare m) tag kept s effect ≡ book.does m tag kept s effect
does_bare m tag kept s (GoTo state) = refl
does_bare m tag kept s TakePartner = refl
does_bare m tag kept s Respond = ap (book.responded s) (resp_bare m)
does_bare m tag kept s SetBack = refl
does_bare m tag kept s TakePacket = ap (λ (num : ℕ). book.with_data (book.is_next s num) kept s) (num_bare m)
does_bare m tag kept s AnswerRep = ap (λ (num : ℕ). book.asked (eqb num s.received) s) (num_bare m)

effects_bare : (m : MessageValue) (tag : Tag) (kept : Bool) (s : Station) (effects : List Effect) →
    fold (book.does (bare m) tag kept) s effects ≡ fold (book.does m tag kept) s effects
effects_bare m tag kept s [] = refl
effects_bare m tag kept s (effect ∷ effects) =
    effects_bare m tag kept (book.does (bare m) tag kept s effect) effects
    ∙ ap (λ (next : Station). fold (book.does m tag kept) next effects) (does_bare m tag kept s effect)

pub arrival_bare : (again : Bool) (s : Station) (m : MessageValue) (tag : Tag) (kept : Bool) →
    after_arrival_by (counted_book again) s (Sound (bare m) tag) kept ≡ after_arrival_by (counted_book again) s (Sound m tag) kept
arrival_bare again s m tag kept =
    effects_bare m tag kept s (row s.state (bare m)).effects
    ∙ ap (λ (r : Row). fold (book.does m tag kept) s r.effects) (row_bare s.state m)
