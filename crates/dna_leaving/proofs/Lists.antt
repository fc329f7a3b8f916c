-- Records one after another: where the links make them all what is left of the records is made, and a judged record is refused alike.
use Rattle.dna_leaving.proofs.Prelude.{◌≡◌, ℕ, ◌<◌, ◌≤◌, Bool, true, false, not, cond, List, [], ◌∷◌, ◌++◌, length, map, Result, Ok, Err, refl, sym}
use Rattle.dna_leaving.proofs.Prelude.{ap, ◌∙◌, subst, arith, lt-ltb, le-ltb, slice_get_within, LinkRefusal, LinkOf, LinksOf, on_ok, Marks}
use Rattle.dna_leaving.proofs.Prelude.{and_then, LinkRules, LinkRecord, OfNoLink, next_links, made, LeftOut, is_out, Judged, link_left, links_left}
use Rattle.dna_leaving.proofs.Prelude.{left_of_result, renumbered, record_left, judged_then, if_made, records_left, judged_after, LinkFits, AreFit}
use Rattle.dna_leaving.proofs.Prelude.{IsRight, AreRight}
use Rattle.dna_leaving.proofs.Judged.{judged_alike}
use Rattle.dna_leaving.proofs.Answered.{IfMade}
use Rattle.dna_leaving.proofs.Steps.{next_left, next_out, next_fit}

-- ---- marks of links that begin

pub marked_before : (marks : Marks) (size : ℕ) (mark : Bool) (n : ℕ) → n < size → and_then marks size mark n ≡ marks n
marked_before marks size mark n less = ap (λ (b : Bool). cond b (marks n) mark) (lt-ltb n size less)

pub marked_then : (marks : Marks) (size : ℕ) (mark : Bool) (n : ℕ) → size ≤ n → and_then marks size mark n ≡ mark
marked_then marks size mark n more = ap (λ (b : Bool). cond b (marks n) mark) (le-ltb n size more)

module _ {D K : Type 0} (rules : LinkRules D K) (out : LeftOut) (judged : Judged) (s : LinksOf D) (fit : AreFit out judged s)
    (one : LinkRecord K) where
  abbrev then : Judged
  then = judged_then out judged s one

  -- links that are there keep their marks
  pub fit_then : AreFit out then s
  fit_then n l there =
      subst (λ (b : Bool). LinkFits out judged.there b l)
      (sym (marked_before judged.here (length s.links) (not (is_out out one)) n (slice_get_within s.links n l there))) (fit n l there)

  pub left_then : links_left then s ≡ links_left judged s
  left_then =
      ap (λ (links : List (LinkOf D)). record s { links = map (link_left judged.there) links })
      (judged_alike then.here judged.here s.links (λ n less. marked_before judged.here (length s.links) (not (is_out out one)) n less))

  -- the next has that of the record
  pub next_mark : (b : Bool) → is_out out one ≡ not b → then.here (length s.links) ≡ b
  next_mark b is = marked_then judged.here (length s.links) (not (is_out out one)) (length s.links) (omega arith) ∙ ap not is ∙ twice b
    where
      twice : (b : Bool) → not (not b) ≡ b
      twice true = refl
      twice false = refl

  module _ (right : IsRight out then one) where
    pub stays_fit : (x : LinksOf D) → next_links rules s one ≡ Ok x → AreFit out then x
    stays_fit x made_is = go (is_out out one) refl
      where
        at : (b : Bool) → is_out out one ≡ not b → AreFit out then x
        at b is = subst (IfMade (AreFit out then)) made_is (next_fit rules out then s fit_then b one is right (next_mark b is))

        go : (o : Bool) → is_out out one ≡ o → AreFit out then x
        go true is = at false is
        go false is = at true is

    pub judged_alike_left : is_out out one ≡ false →
        left_of_result (links_left then) (next_links rules s one) ≡ next_links rules (links_left judged s) (record_left out then one)
    judged_alike_left is =
        next_left rules out then s fit_then one is right (next_mark true is)
        ∙ ap (λ (t : LinksOf D). next_links rules t (renumbered then one)) left_then
        ∙ ap (λ (b : Bool). next_links rules (links_left judged s) (cond b OfNoLink (renumbered then one))) (sym is)

    pub made_alike : (x : LinksOf D) → next_links rules s one ≡ Ok x →
        next_links rules (links_left judged s) (record_left out then one) ≡ Ok (links_left then x)
    made_alike x made_is = go (is_out out one) refl
      where
        go : (o : Bool) → is_out out one ≡ o → next_links rules (links_left judged s) (record_left out then one) ≡ Ok (links_left then x)
        go false is = sym (judged_alike_left is) ∙ ap (left_of_result (links_left then)) made_is
        go true is =
            let same : links_left then x ≡ links_left then s =
            subst (IfMade (λ (left : LinksOf D). links_left then left ≡ links_left then s)) made_is
            (next_out rules out then s fit_then one is right (next_mark false is)) in
            ap (λ (b : Bool). next_links rules (links_left judged s) (cond b OfNoLink (renumbered then one))) is ∙ ap Ok (sym (same ∙ left_then))

    pub refused_alike : is_out out one ≡ false → (refusal : LinkRefusal) → next_links rules s one ≡ Err refusal →
        next_links rules (links_left judged s) (record_left out then one) ≡ Err refusal
    refused_alike is refusal refused = sym (judged_alike_left is) ∙ ap (left_of_result (links_left then)) refused

-- ---- lists

module _ {D K : Type 0} (rules : LinkRules D K) (out : LeftOut) where
  abbrev later_left : Judged → List (LinkRecord K) → Result (LinksOf D) LinkRefusal → List (LinkRecord K)
  later_left then later r = if_made r [] (λ x. records_left rules out then x later)

  abbrev after_later : Judged → List (LinkRecord K) → Result (LinksOf D) LinkRefusal → Judged
  after_later then later r = if_made r then (λ x. judged_after rules out then x later)

  pub list_left : (records : List (LinkRecord K)) (judged : Judged) (s left : LinksOf D) → AreFit out judged s →
      AreRight rules out judged s records →
      made rules s records ≡ Ok left →
      made rules (links_left judged s) (records_left rules out judged s records) ≡ Ok (links_left (judged_after rules out judged s records) left)
  list_left [] judged s left fit right made_is = ap (left_of_result (links_left judged)) made_is
  list_left (one ∷ later) judged s left fit right made_is =
      go (next_links rules s one) refl made_is (λ x fit_x right_x made_x. list_left later (judged_then out judged s one) x left fit_x right_x made_x)
    where
      go : (r : Result (LinksOf D) LinkRefusal) → next_links rules s one ≡ r → on_ok r (λ x. made rules x later) ≡ Ok left →
          ((x : LinksOf D) → AreFit out (judged_then out judged s one) x → AreRight rules out (judged_then out judged s one) x later →
          made rules x later ≡ Ok left →
          made rules (links_left (judged_then out judged s one) x) (records_left rules out (judged_then out judged s one) x later) ≡ Ok (links_left
          (judged_after rules out (judged_then out judged s one) x later) left)) →
          made rules (links_left judged s) (record_left out (judged_then out judged s one) one ∷ later_left (judged_then out judged s one) later
          (next_links rules s one))
          ≡ Ok (links_left (after_later (judged_then out judged s one) later (next_links rules s one)) left)
      go (Err refusal) e made_later further = absurd cc
      go (Ok x) e made_later further =
          ap (λ (r : Result (LinksOf D) LinkRefusal). on_ok r (λ t. made rules t (later_left (judged_then out judged s one) later
          (next_links rules s one))))
          (made_alike rules out judged s fit one right.0 x e)
          ∙ ap (λ (r : Result (LinksOf D) LinkRefusal). made rules (links_left (judged_then out judged s one) x) (later_left
          (judged_then out judged s one) later r)) e
          ∙ further x (stays_fit rules out judged s fit one right.0 x e) (right.1 x e) made_later
          ∙ ap (λ (r : Result (LinksOf D) LinkRefusal). Ok (links_left (after_later (judged_then out judged s one) later r) left)) (sym e)

  pub refusal_left : (before : List (LinkRecord K)) (one : LinkRecord K) (later : List (LinkRecord K)) (judged : Judged) (s left : LinksOf D)
      (refusal : LinkRefusal) →
      AreFit out judged s → AreRight rules out judged s (before ++ one ∷ later) → made rules s before ≡ Ok left → is_out out one ≡ false →
      next_links rules left one ≡ Err refusal →
      made rules (links_left judged s) (records_left rules out judged s (before ++ one ∷ later)) ≡ Err refusal
  refusal_left [] one later judged s left refusal fit right made_is is refused =
      ap (λ (r : Result (LinksOf D) LinkRefusal). on_ok r (λ t. made rules t (later_left (judged_then out judged s one) later
      (next_links rules s one))))
      (refused_alike rules out judged s fit one right.0 is refusal (ap (λ (x : LinksOf D). next_links rules x one) same ∙ refused))
    where
      same : s ≡ left
      same = cc
  refusal_left (first ∷ before) one later judged s left refusal fit right made_is is refused =
      go (next_links rules s first) refl made_is
      (λ x fit_x right_x made_x. refusal_left before one later (judged_then out judged s first) x left refusal fit_x right_x made_x is refused)
    where
      go : (r : Result (LinksOf D) LinkRefusal) → next_links rules s first ≡ r → on_ok r (λ x. made rules x before) ≡ Ok left →
          ((x : LinksOf D) → AreFit out (judged_then out judged s first) x → AreRight rules out (judged_then out judged s first) x
          (before ++ one ∷ later) → made rules x before ≡ Ok left →
          made rules (links_left (judged_then out judged s first) x) (records_left rules out (judged_then out judged s first) x
          (before ++ one ∷ later)) ≡ Err refusal) →
          made rules (links_left judged s) (record_left out (judged_then out judged s first) first ∷ later_left (judged_then out judged s first)
          (before ++ one ∷ later) (next_links rules s first)) ≡ Err refusal
      go (Err other) e made_later further = absurd cc
      go (Ok x) e made_later further =
          ap (λ (r : Result (LinksOf D) LinkRefusal). on_ok r (λ t. made rules t (later_left (judged_then out judged s first)
          (before ++ one ∷ later) (next_links rules s first))))
          (made_alike rules out judged s fit first right.0 x e)
          ∙ ap (λ (r : Result (LinksOf D) LinkRefusal). made rules (links_left (judged_then out judged s first) x) (later_left
          (judged_then out judged s first) (before ++ one ∷ later) r)) e
          ∙ further x (stays_fit rules out judged s fit first right.0 x e) (right.1 x e) made_later
