-- What a data unit of a side shows, by its message; and that it was sent.
use Rattle.accusing_links.proofs.Prelude.{◌≡◌, ℕ, true, Option, Some, None, Result, Ok, List, [], ◌∷◌, ◌++◌, sym, subst, ap, ◌∙◌, MessageValue}
use Rattle.accusing_links.proofs.Prelude.{Data, Ack, Nak, Rep, Strt, Stack, ReadingValue, reading, Sound, NspValue, StepRefusal, body_of, Carried}
use Rattle.accusing_links.proofs.Prelude.{content, Passed, Own, Shown, packet_in, shown_in, shown_by, sent_in, sent_of, call_of}
use Rattle.accusing_links.proofs.{Numbered.Bears, Phases.sent_own, Onwards.Gone, Follows.or_first}

module _ (of : ℕ → NspValue → Shown) where
  -- what a data unit shows
  pub shown_none : (m : MessageValue) (a b c : ℕ) → content (body_of m) ≡ Ok None → sent_in of (Sound m) a b c ≡ true → ⊥
  shown_none (Data flags resp num body) a b c is e =
      let f : shown_in (of num) (Ok None) a b c ≡ true = subst (λ (x : Result (Option Carried) StepRefusal). shown_in (of num) x a b c ≡ true) is e in
      absurd cc
  shown_none (Ack flags resp) a b c is e = absurd cc
  shown_none (Nak flags reason resp) a b c is e = absurd cc
  shown_none (Rep flags num) a b c is e = absurd cc
  shown_none (Strt flags) a b c is e = absurd cc
  shown_none (Stack flags) a b c is e = absurd cc

  pub shown_gone : (before : List Passed) (m : MessageValue) (a b c : ℕ) → Bears (Gone before) m → sent_in of (Sound m) a b c ≡ true →
      sent_of of before a b c ≡ true
  shown_gone before (Data flags resp num body) a b c gone e = gone of a b c e
  shown_gone before (Ack flags resp) a b c gone e = absurd cc
  shown_gone before (Nak flags reason resp) a b c gone e = absurd cc
  shown_gone before (Rep flags num) a b c gone e = absurd cc
  shown_gone before (Strt flags) a b c gone e = absurd cc
  shown_gone before (Stack flags) a b c gone e = absurd cc

-- whatever its number
pub shown_message : (of : NspValue → Shown) (m : MessageValue) (packet : Carried) (a b c : ℕ) → content (body_of m) ≡ Ok (Some packet) →
    sent_in (λ num. of) (Sound m) a b c ≡ true → of packet.message a b c ≡ true
shown_message of (Data flags resp num body) packet a b c is e =
    subst (λ (x : Result (Option Carried) StepRefusal). shown_in of x a b c ≡ true) is e
shown_message of (Ack flags resp) packet a b c is e = absurd cc
shown_message of (Nak flags reason resp) packet a b c is e = absurd cc
shown_message of (Rep flags num) packet a b c is e = absurd cc
shown_message of (Strt flags) packet a b c is e = absurd cc
shown_message of (Stack flags) packet a b c is e = absurd cc

pub shown_call : (m : MessageValue) (packet : Carried) (a b c : ℕ) → content (body_of m) ≡ Ok (Some packet) →
    shown_by call_of (packet_in (Sound m)) a b c ≡ call_of packet.message a b c
shown_call (Data flags resp num body) packet a b c is = ap (λ (x : Result (Option Carried) StepRefusal). shown_in call_of x a b c) is
shown_call (Ack flags resp) packet a b c is = absurd cc
shown_call (Nak flags reason resp) packet a b c is = absurd cc
shown_call (Rep flags num) packet a b c is = absurd cc
shown_call (Strt flags) packet a b c is = absurd cc
shown_call (Stack flags) packet a b c is = absurd cc

-- the message was just sent
pub gone_now : (before : List Passed) (unit : List ℕ) (m : MessageValue) → reading unit ≡ Sound m → Bears (Gone (before ++ Own unit ∷ [])) m
gone_now before unit (Data flags resp num body) read = λ of a b c e.
    sent_own of before unit a b c
    ∙ or_first (sent_in of (reading unit) a b c) _ (subst (λ (r : ReadingValue). sent_in of r a b c ≡ true) (sym read) e)
gone_now before unit (Ack flags resp) read = tt
gone_now before unit (Nak flags reason resp) read = tt
gone_now before unit (Rep flags num) read = tt
gone_now before unit (Strt flags) read = tt
gone_now before unit (Stack flags) read = tt
