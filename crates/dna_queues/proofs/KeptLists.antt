-- Lists of links of which one changes, and what waits for a link when more comes.
use Rattle.dna_queues.proofs.Prelude.{◌≡◌, ℕ, zero, suc, Bool, true, false, cond, Option, Some, None, List, [], ◌∷◌, ◌++◌, length, refl, sym, ap}
use Rattle.dna_queues.proofs.Prelude.{ap₂, ◌∙◌, eqb-true, arith, slice_get, same_Some, is_live, is_at, LinksOf, LinkOf, are_same, SentMessage}
use Rattle.dna_queues.proofs.Prelude.{Takes, First, Behind, waiting, link_it_is_for}
use Rattle.dna_queues.proofs.{Goes.Link, Facts.by_option, Facts.by_test}
use Rattle.dna_queues.proofs.LinkLists.{IsUnique, IsSet, IsChanged}
use Rattle.dna_queues.proofs.Timed.{Awaits, EndsFirst, AreKept, IsKept}

-- one that changes at most the link with this address, of links that have it at most once
none_too : {X Y : Type 0} (xs : List X) (ys : List Y) (i : ℕ) → length ys ≡ length xs → slice_get xs i ≡ None → slice_get ys i ≡ None
none_too [] [] i size none = refl
none_too [] (y ∷ ys) i size none = absurd (omega (arith, size))
none_too (x ∷ xs) [] i size none = refl
none_too (x ∷ xs) (y ∷ ys) zero size none = absurd cc
none_too (x ∷ xs) (y ∷ ys) (suc i) size none = none_too xs ys i (omega (arith, size)) none

module _ {D : Type 0} (s left : LinksOf D) (address : ℕ) (f : LinkOf D → LinkOf D) (c : IsChanged s left address f) (unique : IsUnique s) where
  pub set_of_changed : (i : ℕ) (l : LinkOf D) → slice_get s.links i ≡ Some l → is_at l.port.own address ≡ true → IsSet s left i (f l)
  set_of_changed i l at own = record {
    node = c.node;
    peer = c.peer;
    size = c.size;
    here = c.here i l at own;
    others = λ j differs. by_option (slice_get s.links j) (λ e. none_too s.links left.links j c.size e ∙ sym e)
        (λ k at_k. by_test (is_at k.port.own address) (λ e. absurd (differs (unique j i k l at_k at address e own)))
        (λ e. c.other j k at_k e ∙ sym at_k));
  }

pub same_lists : {X : Type 0} (xs ys : List X) → length ys ≡ length xs →
    ((i : ℕ) (x : X) → slice_get xs i ≡ Some x → slice_get ys i ≡ Some x) → ys ≡ xs
same_lists [] [] size same = refl
same_lists [] (y ∷ ys) size same = absurd (omega (arith, size))
same_lists (x ∷ xs) [] size same = absurd (omega (arith, size))
same_lists (x ∷ xs) (y ∷ ys) size same =
    ap₂ (λ z zs. z ∷ zs) (same_Some y x (same zero x refl)) (same_lists xs ys (omega (arith, size)) (λ i z at. same (suc i) z at))

pub takes_last : (units : List SentMessage) (unit : SentMessage) (address : ℕ) → link_it_is_for unit ≡ Some address →
    waiting link_it_is_for (Some address) units ≡ [] → Takes link_it_is_for (units ++ unit ∷ []) unit units
takes_last [] unit address is none = First unit []
takes_last (first ∷ units) unit address is none =
    go (are_same (link_it_is_for first) (Some address)) refl none (λ f. takes_last units unit address is f)
  where
    go : (b : Bool) → are_same (link_it_is_for first) (Some address) ≡ b →
        cond b (first ∷ waiting link_it_is_for (Some address) units) (waiting link_it_is_for (Some address) units) ≡ [] →
        (waiting link_it_is_for (Some address) units ≡ [] → Takes link_it_is_for (units ++ unit ∷ []) unit units) →
        Takes link_it_is_for (first ∷ units ++ unit ∷ []) unit (first ∷ units)
    go true same e further = absurd cc
    go false other e further =
        Behind first unit (units ++ unit ∷ []) units (ap (λ (o : Option ℕ). are_same (link_it_is_for first) o) is ∙ other) (further e)

pub at_is : (o : Option ℕ) (n : ℕ) → is_at o n ≡ true → o ≡ Some n
at_is None n e = absurd cc
at_is (Some x) n e = ap Some (eqb-true x n e)

pub kept_push : (node peer : ℕ) (units : List SentMessage) (unit : SentMessage) → AreKept node peer units → IsKept node peer unit →
    AreKept node peer (units ++ unit ∷ [])
kept_push node peer [] unit are is = (is, tt)
kept_push node peer (first ∷ units) unit are is = (are.0, kept_push node peer units unit are.1 is)

-- what waits at a link that is over, when more comes for it
first_push : (l : Link) (kept : List SentMessage) (unit : SentMessage) → EndsFirst l kept → EndsFirst l (kept ++ unit ∷ [])
first_push l [] unit e = absurd e
first_push l (first ∷ kept) unit e = e

pub awaits_push : (l : Link) (kept : List SentMessage) (unit : SentMessage) → is_live l.port.phase ≡ false → Awaits l kept →
    Awaits l (kept ++ unit ∷ [])
awaits_push l kept unit over a = record {
  live = λ e. let never : true ≡ false = sym e ∙ over in absurd cc;
  over = λ p e. first_push l kept unit (a.over p e);
}
