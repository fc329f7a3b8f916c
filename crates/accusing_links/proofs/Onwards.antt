-- A side for which records exist sends no acknowledgement alone that goes back.
use Rattle.accusing_links.proofs.Prelude.{◌≡◌, ℕ, zero, suc, ◌+◌, ◌<◌, ◌≤◌, Bool, true, false, ◌||◌, not, List, [], ◌∷◌, refl, ◌⊎◌, inl, inr, arith}
use Rattle.accusing_links.proofs.Prelude.{list_any, AllByRecursion, and_parts, AckWord, IsAckWord, NspValue, Queues, REACH, wire, distance}
use Rattle.accusing_links.proofs.Prelude.{is_of_data, WireLinks, content, Passed, Shown, shown_in, passed_of, segment_of, said_in, alone_in}
use Rattle.accusing_links.proofs.Prelude.{sent_of, told, was_said, is_back}
use Rattle.accusing_links.proofs.{Passing.AsNumbers, Sends.IsOnward, Sends.AreOnward, AllFollow.AreKnown, FollowSteps.not_both}
use Rattle.accusing_links.proofs.{FollowSaid.IsAtLeast}

pub or_cases : (a b : Bool) → (a || b) ≡ true → (a ≡ true) ⊎ (b ≡ true)
or_cases true b e = inl refl
or_cases false b e = inr e

pub not_false : (b : Bool) → not b ≡ true → b ≡ false
not_false true e = absurd cc
not_false false e = refl

-- a number above this one that was said
record IsSaidAbove (said : ℕ → Bool) (number count : ℕ) : Type 0 where
  above : ℕ
  first : 1 ≤ above
  most : above ≤ count
  there : said (wire (number + above)) ≡ true

said_above : (said : ℕ → Bool) (number count : ℕ) → was_said said number count ≡ true → IsSaidAbove said number count
unfolding was_said
said_above said number zero e = absurd cc
said_above said number (suc count) e =
    go (or_cases (said (wire (number + suc count))) (was_said said number count) e) (said_above said number count)
  where
    go : (said (wire (number + suc count)) ≡ true) ⊎ (was_said said number count ≡ true) →
        (was_said said number count ≡ true → IsSaidAbove said number count) → IsSaidAbove said number (suc count)
    go (inl this) rest = record { above = suc count; first = omega arith; most = omega arith; there = this }
    go (inr later) rest =
        let is = rest later in
        let m = is.most in record { above = is.above; first = is.first; most = omega (arith, m); there = is.there }

module _ (own far : ℕ) where
  abbrev pub Q : List Passed → ℕ → Type 0
  Q before = AsNumbers (passed_of segment_of before) own far

  abbrev pub said : List Passed → ℕ → Bool
  said before number = sent_of (λ num. said_in) before own far number

-- a data unit with this number and this packet was sent
abbrev pub Gone : List Passed → ℕ → List ℕ → Type 0
Gone before num body =
    (of : ℕ → NspValue → Shown) (a b c : ℕ) → shown_in (of num) (content body) a b c ≡ true → sent_of of before a b c ≡ true

module _ (queues : Queues) (own far : ℕ) where
  -- ---- no word of a message alone goes back

  module _ (before : List Passed) (num : ℕ) (links : WireLinks) where
    abbrev pub Onward : List AckWord → Type 0
    Onward acks = (least : ℕ) → AreKnown queues own far least (Q own far before) links.links → AreOnward least (Q own far before) acks

    word_back : (word : AckWord) → word.number < 4096 →
        ((number : ℕ) → said own far before number ≡ true → IsAtLeast queues own far (Q own far before) links.links number) →
        ((least : ℕ) → AreKnown queues own far least (Q own far before) links.links → is_of_data word.qualifier ≡ true →
        IsOnward least (Q own far before) word.number) →
        is_back (told before) num own far word ≡ true → ⊥
    word_back word small all onward e =
        let one = and_parts (is_of_data word.qualifier) _ e in
        let two = and_parts (not (sent_of alone_in before num own word.number)) _ one.1 in
        let three = and_parts (not (passed_of segment_of before own far (wire (word.number + 2048))))
        (was_said (said own far before) word.number REACH) two.1 in
        let above = said_above (said own far before) word.number REACH three.1 in
        let is = all (wire (word.number + above.above)) above.there in
        let same : wire (word.number + above.above) ≡ wire is.for = is.same in
        let first = above.first in
        let most = above.most in
        let near : distance word.number (wire is.for) ≡ above.above = omega (arith, same, first, most, small) in
        let low : 1 ≤ distance word.number (wire is.for) = omega (arith, near, first) in
        let high : distance word.number (wire is.for) ≤ REACH = omega (arith, near, most) in
        not_both (passed_of segment_of before own far (wire (word.number + 2048))) (onward is.for is.known one.0 low high)
        (not_false (passed_of segment_of before own far (wire (word.number + 2048))) three.0)

    pub none_back : (acks : List AckWord) → AllByRecursion IsAckWord acks →
        ((number : ℕ) → said own far before number ≡ true → IsAtLeast queues own far (Q own far before) links.links number) → Onward acks →
        list_any (is_back (told before) num own far) acks ≡ false
    none_back [] small all onward = refl
    none_back (word ∷ acks) small all onward =
        go (is_back (told before) num own far word) refl (none_back acks small.1 all (λ least k. (onward least k).1))
      where
        go : (b : Bool) → is_back (told before) num own far word ≡ b → list_any (is_back (told before) num own far) acks ≡ false →
            (b || list_any (is_back (told before) num own far) acks) ≡ false
        go true e rest = absurd (word_back word small.0 all (λ least k. (onward least k).0) e)
        go false e rest = rest
