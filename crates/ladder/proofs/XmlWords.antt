-- Which bytes stand for themselves.
use Rattle.std.proofs.Common.{◌≡◌, ◌≤◌, ℕ, inl, inr}
use Rattle.ladder.specs.Xml.{IsPlain}

pub line_feed : (c : ℕ) → c ≡ 10 → IsPlain c
line_feed c is = inl is

pub below_ampersand : (c : ℕ) → 32 ≤ c → c ≤ 37 → IsPlain c
below_ampersand c low high = inr (inl (low, high))

pub below_less : (c : ℕ) → 40 ≤ c → c ≤ 59 → IsPlain c
below_less c low high = inr (inr (inl (low, high)))

pub equals : (c : ℕ) → c ≡ 61 → IsPlain c
equals c is = inr (inr (inr (inl is)))

pub above_greater : (c : ℕ) → 63 ≤ c → c ≤ 126 → IsPlain c
above_greater c low high = inr (inr (inr (inr (low, high))))
