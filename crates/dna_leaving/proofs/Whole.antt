-- Where all is judged nothing is left out, and each number stays.
use Rattle.dna_leaving.proofs.Prelude.{◌≡◌, ℕ, zero, suc, true, Option, Some, None, List, [], ◌∷◌, map, option_map, refl, ap, ap₂, ◌∙◌, cond}
use Rattle.dna_leaving.proofs.Prelude.{LinkOf, LinksOf, LinkTruth, Marks, judged_of, rank, LinkRecord, OfUser, Sends, Keeps, OfNoLink, nothing_out}
use Rattle.dna_leaving.proofs.Prelude.{all_judged, link_left, links_left, truth_left, renumbered, record_left}
use Rattle.dna_leaving.proofs.Units.{no_record_out}

abbrev all : Marks
all n = true

whole_rank : (n : ℕ) → rank all n ≡ n
whole_rank zero = refl
whole_rank (suc n) = ap suc (whole_rank n)

whole_number : (number : Option ℕ) → option_map (rank all) number ≡ number
whole_number None = refl
whole_number (Some n) = ap Some (whole_rank n)

module _ {D : Type 0} where
  whole_link : (l : LinkOf D) → link_left all l ≡ l
  whole_link l = ap (λ (partner : Option ℕ). record l { partner = partner }) (whole_number l.partner)

  whole_list : (links : List (LinkOf D)) → map (link_left all) (judged_of all links) ≡ links
  whole_list [] = refl
  whole_list (l ∷ links) = ap₂ (λ (x : LinkOf D) (xs : List (LinkOf D)). x ∷ xs) (whole_link l) (whole_list links)

  pub whole_links : (s : LinksOf D) → links_left all_judged s ≡ s
  whole_links s = ap (λ (links : List (LinkOf D)). record s { links = links }) (whole_list s.links)

module _ {K : Type 0} where
  whole_truth : (truth : LinkTruth K) → truth_left all all truth ≡ truth
  whole_truth truth =
      ap₂ (λ (link partner : Option ℕ). record truth { tag = record { link = link; partner = partner } }) (whole_number truth.tag.link)
      (whole_number truth.tag.partner)

  whole_numbers : (one : LinkRecord K) → renumbered all_judged one ≡ one
  whole_numbers (OfUser event) = refl
  whole_numbers (Sends packet) = refl
  whole_numbers (Keeps packet truth) = ap (Keeps packet) (whole_truth truth)
  whole_numbers OfNoLink = refl

  pub whole_record : (one : LinkRecord K) → record_left nothing_out all_judged one ≡ one
  whole_record one =
      ap (λ b. cond b OfNoLink (renumbered all_judged one)) (no_record_out one) ∙ whole_numbers one
