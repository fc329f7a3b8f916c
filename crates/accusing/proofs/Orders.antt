-- What may have been heard grows with what passes, and grows alike.
use Rattle.std.proofs.Common.{◌≡◌, ℕ, ◌+◌, ◌<◌, ◌≤◌, true, false, not, eqb, length, refl, sym, ap, ◌∙◌, arith}
use Rattle.std.proofs.lemmas.List.{length-set}
use Rattle.ddcmp_msg.specs.Message.{MessageValue, Data, Ack, Nak, Rep, Strt, Stack}
use Rattle.dna_station.specs.Station.{wire}
use Rattle.accusing.specs.declared.heard.Heard.{Heard}
use Rattle.accusing.specs.Heard.{hears, next_of, has_resp}
use Rattle.accusing.proofs.Modulo.{or_first, or_keeps, rises-more, rises-most, rises-mono}
use Rattle.accusing.proofs.Resps.{stays_there, there_alike}

pub record IsHeard (h : Heard) : Type 0 where
  pub byte : h.received < 256
  pub most : h.reach ≤ 255
  pub size : length h.resps ≡ 256

-- all that was heard by the first may have been heard by the second
pub record IsWithin (h t : Heard) : Type 0 where
  pub received : h.received ≡ t.received
  pub reach : h.reach ≤ t.reach
  pub answered : t.answered ≡ false → h.answered ≡ false
  pub nak : t.nak ≡ false → h.nak ≡ false
  pub resps : (v : ℕ) → has_resp h v ≡ true → has_resp t v ≡ true
  pub size : length h.resps ≡ 256
  pub second : IsHeard t

pub within_itself : (h : Heard) → IsHeard h → IsWithin h h
within_itself h is = record { received = refl; reach = omega arith; answered = λ e. e; nak = λ e. e; resps = λ v e. e; size = is.size; second = is }

pub within_trans : (h t u : Heard) → IsWithin h t → IsWithin t u → IsWithin h u
within_trans h t u p q = record {
  received = p.received ∙ q.received;
  reach = omega arith;
  answered = λ e. p.answered (q.answered e);
  nak = λ e. p.nak (q.nak e);
  resps = λ v e. q.resps v (p.resps v e);
  size = p.size;
  second = q.second;
}

pub hears_is : (h : Heard) (m : MessageValue) → IsHeard h → IsHeard (hears h m)
hears_is h (Data flags resp num body) is = record {
  byte = is.byte;
  most = rises-most (eqb num (next_of h)) h.reach is.most;
  size = length-set h.resps resp true ∙ is.size;
}
hears_is h (Ack flags resp) is = record { byte = is.byte; most = is.most; size = length-set h.resps resp true ∙ is.size }
hears_is h (Nak flags reason resp) is = record { byte = is.byte; most = is.most; size = length-set h.resps resp true ∙ is.size }
hears_is h (Rep flags num) is = is
hears_is h (Strt flags) is = is
hears_is h (Stack flags) is = is

pub hears_more : (h : Heard) (m : MessageValue) → IsHeard h → IsWithin h (hears h m)
hears_more h (Data flags resp num body) is = record {
  received = refl;
  reach = rises-more (eqb num (next_of h)) h.reach is.most;
  answered = or_first h.answered (not (eqb resp 0));
  nak = λ e. e;
  resps = λ v e. stays_there h.resps resp v e;
  size = is.size;
  second = hears_is h (Data flags resp num body) is;
}
hears_more h (Ack flags resp) is = record {
  received = refl;
  reach = omega arith;
  answered = or_first h.answered (not (eqb resp 0));
  nak = λ e. e;
  resps = λ v e. stays_there h.resps resp v e;
  size = is.size;
  second = hears_is h (Ack flags resp) is;
}
hears_more h (Nak flags reason resp) is = record {
  received = refl;
  reach = omega arith;
  answered = or_first h.answered (not (eqb resp 0));
  nak = λ e. absurd cc;
  resps = λ v e. stays_there h.resps resp v e;
  size = is.size;
  second = hears_is h (Nak flags reason resp) is;
}
hears_more h (Rep flags num) is = within_itself h is
hears_more h (Strt flags) is = within_itself h is
hears_more h (Stack flags) is = within_itself h is

pub hears_mono : (h t : Heard) (m : MessageValue) → IsWithin h t → IsWithin (hears h m) (hears t m)
hears_mono h t (Data flags resp num body) p = record {
  received = p.received;
  reach = rises-mono (eqb num (next_of h)) (eqb num (next_of t)) h.reach t.reach p.reach p.second.most
      (λ e. ap (λ x. eqb num (wire x)) (ap (λ x. x + h.reach + 1) p.received ∙ ap (λ x. t.received + x + 1) e));
  answered = or_keeps h.answered t.answered (not (eqb resp 0)) p.answered;
  nak = p.nak;
  resps = λ v e. there_alike h.resps t.resps resp v (p.size ∙ sym p.second.size) (p.resps v) e;
  size = length-set h.resps resp true ∙ p.size;
  second = hears_is t (Data flags resp num body) p.second;
}
hears_mono h t (Ack flags resp) p = record {
  received = p.received;
  reach = p.reach;
  answered = or_keeps h.answered t.answered (not (eqb resp 0)) p.answered;
  nak = p.nak;
  resps = λ v e. there_alike h.resps t.resps resp v (p.size ∙ sym p.second.size) (p.resps v) e;
  size = length-set h.resps resp true ∙ p.size;
  second = hears_is t (Ack flags resp) p.second;
}
hears_mono h t (Nak flags reason resp) p = record {
  received = p.received;
  reach = p.reach;
  answered = or_keeps h.answered t.answered (not (eqb resp 0)) p.answered;
  nak = λ e. absurd cc;
  resps = λ v e. there_alike h.resps t.resps resp v (p.size ∙ sym p.second.size) (p.resps v) e;
  size = length-set h.resps resp true ∙ p.size;
  second = hears_is t (Nak flags reason resp) p.second;
}
hears_mono h t (Rep flags num) p = p
hears_mono h t (Strt flags) p = p
hears_mono h t (Stack flags) p = p
