-- What is left of the links of one end, and of its records: what is judged, with the numbers that links have among those that are judged.
use Rattle.std.specs.Prelude.{true, not, if◌then◌else◌, List, [], ◌∷◌, map, length, Result, Ok, Err}
use Rattle.std.specs.Option.{option_map}
use Rattle.dna_station.specs.declared.link_refusal.LinkRefusal.{LinkRefusal}
use Rattle.dna_links.specs.Links.{LinkOf, LinksOf, LinkTruth}
use Rattle.dna_links.specs.Sending.{Sent}
use Rattle.dna_leaving.specs.Marks.{Marks, judged_of, rank, and_then}
use Rattle.dna_leaving.specs.Records.{LinkRules, LinkRecord, Keeps, OfNoLink, next_links}
use Rattle.dna_leaving.specs.LeftOut.{LeftOut, is_out}

-- which links are judged, here and at the other end
pub record Judged : Type 0 where
  pub here : Marks
  pub there : Marks

abbrev pub all_judged : Judged
all_judged = record { here = λ n. true; there = λ n. true }

-- ---- links, and what is true of messages

abbrev pub link_left : {D : Type 0} → (of_partner : Marks) → LinkOf D → LinkOf D
link_left of_partner link = record link { partner = option_map (rank of_partner) link.partner }

abbrev pub links_left : {D : Type 0} → Judged → LinksOf D → LinksOf D
links_left judged s = record s { links = map (link_left judged.there) (judged_of judged.here s.links) }

abbrev pub truth_left : {K : Type 0} → (of_sender of_receiver : Marks) → LinkTruth K → LinkTruth K
truth_left of_sender of_receiver truth = record truth {
  tag = record { link = option_map (rank of_sender) truth.tag.link; partner = option_map (rank of_receiver) truth.tag.partner };
}

-- what is sent from here
abbrev pub sent_left : {D K : Type 0} → Judged → Sent D K → Sent D K
sent_left judged made = record { links = links_left judged made.links; truth = truth_left judged.here judged.there made.truth }

abbrev pub left_of_result : {X Y : Type 0} → (X → Y) → Result X LinkRefusal → Result Y LinkRefusal
left_of_result left (Ok x) = Ok (left x)
left_of_result left (Err refusal) = Err refusal

-- ---- records

-- what comes has the truth that is left of it
abbrev pub renumbered : {K : Type 0} → Judged → LinkRecord K → LinkRecord K
renumbered judged (Keeps packet truth) = Keeps packet (truth_left judged.there judged.here truth)
renumbered judged one = one

abbrev pub record_left : {K : Type 0} → LeftOut → Judged → LinkRecord K → LinkRecord K
record_left out judged one = if is_out out one then OfNoLink else renumbered judged one

-- the link that a record begins is judged where the record is
abbrev pub judged_then : {D K : Type 0} → LeftOut → Judged → LinksOf D → LinkRecord K → Judged
judged_then out judged s one = record judged { here = and_then judged.here (length s.links) (not (is_out out one)) }

-- goes on with what was made
abbrev pub if_made : {D X : Type 0} → Result (LinksOf D) LinkRefusal → X → (LinksOf D → X) → X
if_made (Ok left) otherwise next = next left
if_made (Err refusal) otherwise next = otherwise

module _ {D K : Type 0} (rules : LinkRules D K) (out : LeftOut) where
  -- what is left of records, up to the first that the links refuse
  abbrev pub records_left : Judged → LinksOf D → List (LinkRecord K) → List (LinkRecord K)
  records_left judged s [] = []
  records_left judged s (one ∷ later) =
      record_left out (judged_then out judged s one) one ∷
      if_made (next_links rules s one) [] (λ left. records_left (judged_then out judged s one) left later)

  -- and which links are judged after them
  abbrev pub judged_after : Judged → LinksOf D → List (LinkRecord K) → Judged
  judged_after judged s [] = judged
  judged_after judged s (one ∷ later) =
      if_made (next_links rules s one) (judged_then out judged s one) (λ left. judged_after (judged_then out judged s one) left later)
