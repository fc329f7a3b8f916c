-- What each period took is a beginning of what its partner period gave: what holds of both stations, and how it is kept where
-- periods grow.
use Rattle.std.proofs.Common.{◌≡◌, ℕ, ◌-◌, ◌≤◌, Option, Some, None, List, [], ◌∷◌, ◌++◌, length, sym, ap, ◌∙◌, arith, append_assoc, append-nil}
use Rattle.std.specs.Prelude.{slice_get}
use Rattle.std.proofs.lemmas.Option.{slice_get_within, same_Some}
use Rattle.two_nodes.proofs.Order.{slice_get-append}
use Rattle.two_nodes.proofs.Listed.{next_at}
use Rattle.ddcmp_msg.specs.Message.{MessageValue, Data}
use Rattle.dna_station.specs.Station.{Station, PastPeriod, past}
use Rattle.dna_station.specs.Truth.{Truth}
use Rattle.dna_station.specs.Delivery.{periods, IsDelivered}
use Rattle.two_nodes.specs.Beginning.{BeginsWith}
use Rattle.two_nodes.proofs.NumberedSteps.{each_pushed}

-- ---- periods grow

-- each period is still there, and has given what it had given
pub record GrowTo (ps qs : List PastPeriod) : Type 0 where
  pub grown : (p : ℕ) (y : PastPeriod) → slice_get ps p ≡ Some y → (z : PastPeriod) × (slice_get qs p ≡ Some z) × BeginsWith z.given y.given

pub begins_same : (xs : List (List ℕ)) → BeginsWith xs xs
begins_same xs = record { rest = []; whole = sym (append-nil xs) }

pub begins_further : (xs ys zs : List (List ℕ)) → BeginsWith ys xs → BeginsWith zs ys → BeginsWith zs xs
begins_further xs ys zs p q =
    record { rest = p.rest ++ q.rest; whole = q.whole ∙ ap (λ (l : List (List ℕ)). l ++ q.rest) p.whole ∙ append_assoc xs p.rest q.rest }

-- the present period gives more
pub grow_present : (s t : Station) → t.earlier ≡ s.earlier → BeginsWith t.packets s.packets → GrowTo (periods s) (periods t)
grow_present s t earlier more = record {
  grown = each_pushed s.earlier (past s) (λ p (y : PastPeriod). (z : PastPeriod) × (slice_get (periods t) p ≡ Some z) × BeginsWith z.given y.given)
      (λ p y at. (y, slice_get-append t.earlier (past t ∷ []) p y (ap (λ (l : List PastPeriod). slice_get l p) earlier ∙ at), begins_same y.given))
      (past t, ap (slice_get (periods t)) (ap length (sym earlier)) ∙ next_at t.earlier [] (past t), more);
}

-- a period begins
pub grow_start : (s t : Station) → t.earlier ≡ s.earlier ++ past s ∷ [] → GrowTo (periods s) (periods t)
grow_start s t earlier = record {
  grown = λ p y at. (y, slice_get-append t.earlier (past t ∷ []) p y (ap (λ (l : List PastPeriod). slice_get l p) earlier ∙ at), begins_same y.given);
}

-- ---- what is kept while the other side's periods grow

pub delivered_grown : (partner : Option ℕ) (taken : List (List ℕ)) (ps qs : List PastPeriod) → GrowTo ps qs → IsDelivered partner taken ps →
    IsDelivered partner taken qs
delivered_grown None taken ps qs g d = d
delivered_grown (Some p) taken ps qs g d =
    let z = g.grown p d.0 d.1 in (z.0, z.1, begins_further taken d.0.given z.0.given d.2 z.2)

-- a data message has a packet that its period gave
abbrev pub IsOffered : MessageValue → Truth → List PastPeriod → Type 0
IsOffered (Data flags resp num body) u ps =
    (there : PastPeriod) × (slice_get ps u.tag.period ≡ Some there) × (1 ≤ u.number) × (slice_get there.given (u.number - 1) ≡ Some body)
IsOffered m u ps = Unit {0}

pub offered_grown : (m : MessageValue) (u : Truth) (ps qs : List PastPeriod) → GrowTo ps qs → IsOffered m u ps → IsOffered m u qs
offered_grown (Data flags resp num body) u ps qs g o =
    let z = g.grown u.tag.period o.0 o.1 in
    (z.0, z.1, o.2, ap (λ (l : List (List ℕ)). slice_get l (u.number - 1)) z.2.whole ∙ slice_get-append o.0.given z.2.rest (u.number - 1) body o.3)
offered_grown m u ps qs g o = tt

-- ---- one packet more is taken

next_rest : (taken rest : List (List ℕ)) (body : List ℕ) → slice_get (taken ++ rest) (length taken) ≡ Some body →
    BeginsWith (taken ++ rest) (taken ++ body ∷ [])
next_rest taken [] body at =
    absurd (let w = slice_get_within (taken ++ []) (length taken) body at in let e = ap length (append-nil taken) in omega arith)
next_rest taken (x ∷ rest) body at =
    let same : x ≡ body = same_Some x body (sym (next_at taken rest x) ∙ at) in
    record { rest = rest; whole = ap (λ (y : List ℕ). taken ++ y ∷ rest) same ∙ sym (append_assoc taken (body ∷ []) rest) }

pub begins_next : (given taken : List (List ℕ)) (body : List ℕ) → BeginsWith given taken → slice_get given (length taken) ≡ Some body →
    BeginsWith given (taken ++ body ∷ [])
begins_next given taken body b at =
    let n = next_rest taken b.rest body (ap (λ (l : List (List ℕ)). slice_get l (length taken)) (sym b.whole) ∙ at) in
    record { rest = n.rest; whole = b.whole ∙ n.whole }
