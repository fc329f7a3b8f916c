-- What may be heard from a later number on is what may be heard, from that number on.
use Rattle.std.proofs.Common.{◌≡◌, ℕ, ◌+◌, ◌-◌, ◌<◌, ◌≤◌, Bool, true, false, cond, eqb, leb, min, refl, arith}
use Rattle.std.proofs.lemmas.Bool.{leb-true, leb-false}
use Rattle.wire_base.specs.Seq.{wire_distance}
use Rattle.ddcmp_msg.specs.Message.{MessageValue, Data, Ack, Nak, Rep, Strt, Stack}
use Rattle.dna_station.specs.Station.{wire}
use Rattle.accusing.specs.declared.heard.Heard.{Heard}
use Rattle.accusing.specs.Heard.{hears, rises, advanced, left_of}
use Rattle.accusing.proofs.Modulo.{left_most, rises-most}
use Rattle.accusing.proofs.Orders.{IsHeard, IsWithin, within_itself, hears_is}

-- the test `255 ≤ reach`, and what it says
data Most (reach : ℕ) : Bool → Type 0 where
  Full : reach ≡ 255 → Most reach true
  Less : reach < 255 → Most reach false

most : (reach : ℕ) → reach ≤ 255 → Most reach (leb 255 reach)
most reach l = go (leb 255 reach) refl
  where
    go : (b : Bool) → leb 255 reach ≡ b → Most reach b
    go true e = Full (omega (arith, leb-true 255 reach e))
    go false e = Less (leb-false 255 reach e)

left-mono : (r s d : ℕ) → r ≤ s → s ≤ 255 → left_of r d ≤ left_of s d
left-mono r s d l m = go (leb 255 r) (leb 255 s) (most r (omega arith)) (most s m)
  where
    go : (b c : Bool) → Most r b → Most s c → cond b 255 (r - d) ≤ cond c 255 (s - d)
    go true true (Full e) (Full f) = omega arith
    go true false (Full e) (Less f) = omega arith
    go false true (Less e) (Full f) = omega arith
    go false false (Less e) (Less f) = omega arith

pub advanced_is : (h : Heard) (resp : ℕ) → IsHeard h → resp < 256 → IsHeard (advanced h resp)
advanced_is h resp is l = record { byte = l; most = left_most h.reach (wire_distance 256 h.received resp) is.most; size = is.size }

pub advanced_mono : (h t : Heard) (resp : ℕ) → resp < 256 → IsWithin h t → IsWithin (advanced h resp) (advanced t resp)
advanced_mono h t resp l p = record {
  received = refl;
  reach = rw p.received (left-mono h.reach t.reach (wire_distance 256 t.received resp) p.reach p.second.most);
  answered = p.answered;
  nak = p.nak;
  resps = p.resps;
  size = p.size;
  second = advanced_is t resp p.second l;
}

-- one number more, with this answer to whether it came
left_rises : (c : Bool) (reach d : ℕ) → reach < 255 → d ≤ reach → rises c (reach - d) ≤ left_of (rises c reach) d
left_rises true reach d l m = go (leb 255 (min 255 (reach + 1))) (most (min 255 (reach + 1)) (omega arith))
  where
    go : (b : Bool) → Most (min 255 (reach + 1)) b → min 255 (reach - d + 1) ≤ cond b 255 (min 255 (reach + 1) - d)
    go true (Full e) = omega arith
    go false (Less e) = omega arith
left_rises false reach d l m = go (leb 255 reach) (most reach (omega arith))
  where
    go : (b : Bool) → Most reach b → reach - d ≤ cond b 255 (reach - d)
    go true (Full e) = omega arith
    go false (Less e) = omega arith

full_left : (c : Bool) (reach d : ℕ) → reach ≡ 255 → 255 ≤ left_of (rises c reach) d
full_left true reach d e = go (leb 255 (min 255 (reach + 1))) (most (min 255 (reach + 1)) (omega arith))
  where
    go : (b : Bool) → Most (min 255 (reach + 1)) b → 255 ≤ cond b 255 (min 255 (reach + 1) - d)
    go true (Full f) = omega arith
    go false (Less f) = omega arith
full_left false reach d e = go (leb 255 reach) (most reach (omega arith))
  where
    go : (b : Bool) → Most reach b → 255 ≤ cond b 255 (reach - d)
    go true (Full f) = omega arith
    go false (Less f) = omega arith

-- rising first, or going on first
rises_left : (f r reach num : ℕ) → f < 256 → r < 256 → reach ≤ 255 → wire_distance 256 f r ≤ reach →
    rises (eqb num (wire (r + left_of reach (wire_distance 256 f r) + 1))) (left_of reach (wire_distance 256 f r))
    ≤ left_of (rises (eqb num (wire (f + reach + 1))) reach) (wire_distance 256 f r)
rises_left f r reach num lf lr lm d = go (leb 255 reach) (most reach lm)
  where
    go : (b : Bool) → Most reach b →
        rises (eqb num (wire (r + cond b 255 (reach - wire_distance 256 f r) + 1))) (cond b 255 (reach - wire_distance 256 f r))
        ≤ left_of (rises (eqb num (wire (f + reach + 1))) reach) (wire_distance 256 f r)
    go true (Full e) =
        let a = rises-most (eqb num (wire (r + 255 + 1))) 255 (omega arith) in
        let b = full_left (eqb num (wire (f + reach + 1))) reach (wire_distance 256 f r) e in
        omega (arith, a, b)
    go false (Less l) =
        let same : wire (r + (reach - wire_distance 256 f r) + 1) ≡ wire (f + reach + 1) = omega arith in
        rw same (left_rises (eqb num (wire (f + reach + 1))) reach (wire_distance 256 f r) l d)

pub advanced_hears : (h : Heard) (m : MessageValue) (resp : ℕ) → IsHeard h → resp < 256 → wire_distance 256 h.received resp ≤ h.reach →
    IsWithin (hears (advanced h resp) m) (advanced (hears h m) resp)
advanced_hears h (Data flags resp_of num body) resp is l d = record {
  received = refl;
  reach = rises_left h.received resp h.reach num is.byte l is.most d;
  answered = λ e. e;
  nak = λ e. e;
  resps = λ v e. e;
  size = (hears_is h (Data flags resp_of num body) is).size;
  second = advanced_is (hears h (Data flags resp_of num body)) resp (hears_is h (Data flags resp_of num body) is) l;
}
advanced_hears h (Ack flags resp_of) resp is l d = within_itself _ (advanced_is (hears h (Ack flags resp_of)) resp (hears_is h (Ack flags
    resp_of) is) l)
advanced_hears h (Nak flags reason resp_of) resp is l d =
    within_itself _ (advanced_is (hears h (Nak flags reason resp_of)) resp (hears_is h (Nak flags reason resp_of) is) l)
advanced_hears h (Rep flags num) resp is l d = within_itself _ (advanced_is h resp is l)
advanced_hears h (Strt flags) resp is l d = within_itself _ (advanced_is h resp is l)
advanced_hears h (Stack flags) resp is l d = within_itself _ (advanced_is h resp is l)
