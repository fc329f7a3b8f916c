-- What is shown of a live link is what is true of it.
use Rattle.std.proofs.Common.{◌≡◌, ℕ, ◌+◌, ◌-◌, ◌≤◌, true, length, drop, ap, ◌∙◌, arith, length-drop}
use Rattle.dna_links.specs.declared.queue.Queues.TheVariants.{Without}
use Rattle.dna_links.specs.CutSegments.{cut, IsOrdered}
use Rattle.dna_links.specs.CutLinks.{cut_as, cut_link}
use Rattle.dna_links.specs.SegmentBook.{wire}
use Rattle.dna_links.specs.Links.{LinkOf}
use Rattle.dna_links.specs.LookUps.{is_live}
use Rattle.dna_links.specs.TrueSegments.{TrueSegments, highest_given}
use Rattle.nsp_link.specs.View.{numbers_of, true_numbers, true_view, view_of}
use Rattle.nsp_link.specs.declared.view.LinkNumbers.{LinkNumbers}

wire_on : (a n : ℕ) → a ≤ n → wire (wire a + (n - a)) ≡ wire n
wire_on a n l = omega arith

abbrev with_given : TrueSegments → ℕ → ℕ → LinkNumbers
with_given f given outstanding = record (true_numbers f) { given = given; outstanding = outstanding }

same_given : (f : TrueSegments) {a b a' b' : ℕ} → a ≡ a' → b ≡ b' → with_given f a b ≡ with_given f a' b'
same_given f ea eb = cc

numbers_true : (f : TrueSegments) → IsOrdered f → numbers_of (cut f) ≡ true_numbers f
numbers_true f ordered =
    let held : length (drop f.acknowledged f.given) ≡ highest_given f - f.acknowledged = length-drop f.acknowledged f.given in
    same_given f (ap (λ (n : ℕ). wire (wire f.acknowledged + n)) held ∙ wire_on f.acknowledged (highest_given f) ordered.given) held

pub shows_truth : (l : LinkOf TrueSegments) → is_live l.port.phase ≡ true → IsOrdered l.segments → view_of (cut_link Without l) ≡ true_view l
shows_truth l live ordered =
    ap (λ (numbers : LinkNumbers). record (true_view l) { numbers = numbers })
    (ap (λ b. numbers_of (cut_as b l.port.own l.segments)) live ∙ numbers_true l.segments ordered)
