-- The head of a part of a run: what is read is its one spelling, its spelling is read, and it is no head of a whole capture.
use Rattle.std.proofs.Common.{◌≡◌, ℕ, ◌+◌, ◌≤◌, true, List, ◌∷◌, ◌++◌, length, Option, Some, None, refl, sym, ap, ◌∙◌, arith, lit<}
use Rattle.std.proofs.Common.{length-append}
use Rattle.std.specs.Prelude.{codes}
use Rattle.std.specs.Str.{bytes_eq}
use Rattle.std.proofs.lemmas.Option.{cond_some}
use Rattle.std.proofs.lemmas.Slice.Eq.{bytes_eq-Decides}
use Rattle.capture.specs.declared.limit.TheConstants.{MAX_LINE}
use Rattle.capture.specs.declared.format.Format.{Format}
use Rattle.capture.specs.declared.format.Format.TheVariants.{One, Two, Three}
use Rattle.capture.specs.Text.{address_text, format_text, head_text, part_head_text, spaced}
use Rattle.capture.specs.Range.{IsNode}
use Rattle.capture.specs.Departing.{IsPartHead}
use Rattle.capture.specs.Reading.{after, address_at, cut_at, head_at, part_head_at, part_nodes_at}
use Rattle.capture.proofs.PartLaws.{HasNo, HasNo-append, after_again, after_takes, cut_takes, cut_again}
use Rattle.capture.proofs.AddressLaws.{and_then, address_takes, address_again, address_lacks}
use Rattle.capture.proofs.HeadLaws.{head_again}
use Rattle.capture.proofs.LackLaws.{address_short, lacks, spaced_lacks, spaced_short}

-- a head that was read
pub record IsPartHeadOf (text : List ℕ) (own peer : ℕ) : Type 0 where
  pub spelled : text ≡ part_head_text own peer
  pub own_fits : IsNode own
  pub peer_fits : IsNode peer

record ArePartNodesOf (text : List ℕ) (nodes : ℕ × ℕ) : Type 0 where
  spelled : text ≡ spaced (address_text nodes.0) (spaced (address_text nodes.1) (codes "part"))
  own_fits : IsNode nodes.0
  peer_fits : IsNode nodes.1

nodes_take : (text : List ℕ) (nodes : ℕ × ℕ) → part_nodes_at text ≡ Some nodes → ArePartNodesOf text nodes
unfolding part_nodes_at
nodes_take text nodes e =
    let first = and_then (cut_at 32 text) _ nodes e in
    let second = and_then (cut_at 32 first.0.1) _ nodes first.2 in
    let own = and_then (address_at first.0.0) _ nodes second.2 in
    let peer = and_then (address_at second.0.0) _ nodes own.2 in
    let word = cond_some (bytes_eq second.0.1 (codes "part")) (own.0, peer.0) nodes peer.2 in
    from_parts first.0.0 first.0.1 second.0.0 second.0.1 own.0 peer.0 (cut_takes 32 text first.0 first.1)
    (cut_takes 32 first.0.1 second.0 second.1) (address_takes first.0.0 own.0 own.1) (address_takes second.0.0 peer.0 peer.1)
    ((bytes_eq-Decides second.0.1 (codes "part")).0 word.0) word.1
  where
    from_parts : (x rest y z : List ℕ) (p q : ℕ) → text ≡ x ++ 32 ∷ rest → rest ≡ y ++ 32 ∷ z → (x ≡ address_text p) × IsNode p →
        (y ≡ address_text q) × IsNode q → z ≡ codes "part" → ◌≡◌ {A = ℕ × ℕ} (p, q) nodes → ArePartNodesOf text nodes
    from_parts x rest y z p q cut again own peer word same =
        rw (← same) (record { spelled = cut ∙ rw (again, own.0, peer.0, word) refl; own_fits = own.1; peer_fits = peer.1 })

pub part_head_takes : (text : List ℕ) (own peer : ℕ) → part_head_at text ≡ Some (own, peer) → IsPartHeadOf text own peer
unfolding part_head_at
part_head_takes text own peer e =
    let begins = and_then (after (codes "ddcap 4 ") text) part_nodes_at (own, peer) e in
    let nodes = nodes_take begins.0 (own, peer) begins.2 in
    record {
      spelled = after_takes (codes "ddcap 4 ") text begins.0 begins.1 ∙ ap (λ (t : List ℕ). codes "ddcap 4 " ++ t) nodes.spelled;
      own_fits = nodes.own_fits;
      peer_fits = nodes.peer_fits;
    }

nodes_again : (own peer : ℕ) → IsNode own → IsNode peer →
    part_nodes_at (spaced (address_text own) (spaced (address_text peer) (codes "part"))) ≡ Some (own, peer)
unfolding part_nodes_at
nodes_again own peer p q =
    rw (
      cut_again 32 (address_text own) (spaced (address_text peer) (codes "part")) (address_lacks 32 own (lit< tt) p),
      cut_again 32 (address_text peer) (codes "part") (address_lacks 32 peer (lit< tt) q),
      address_again own p,
      address_again peer q,
    ) refl

pub part_head_again : (own peer : ℕ) → IsNode own → IsNode peer → part_head_at (part_head_text own peer) ≡ Some (own, peer)
unfolding part_head_at
part_head_again own peer p q = rw (nodes_again own peer p q) refl

-- it has no LF, and is no longer than a line may be
pub part_head_lacks : (own peer : ℕ) → IsNode own → IsNode peer → HasNo 10 (part_head_text own peer)
part_head_lacks own peer p q =
    HasNo-append 10 (codes "ddcap 4 ") (spaced (address_text own) (spaced (address_text peer) (codes "part"))) (lacks 10 (codes "ddcap 4 ") refl)
    (spaced_lacks (address_text own) (spaced (address_text peer) (codes "part")) (address_lacks 10 own (lit< tt) p)
    (spaced_lacks (address_text peer) (codes "part") (address_lacks 10 peer (lit< tt) q) (lacks 10 (codes "part") refl)))

pub part_head_short : (own peer : ℕ) → IsNode own → IsNode peer → length (part_head_text own peer) ≤ MAX_LINE
part_head_short own peer p q =
    let later = spaced_short (address_text peer) (codes "part") 7 4 (address_short peer q) (omega arith) in
    let n = spaced_short (address_text own) (spaced (address_text peer) (codes "part")) 7 12 (address_short own p) later in
    omega arith

-- no head of a whole capture is one, and none is read as such
pub part_not_whole : (own peer : ℕ) → head_at (part_head_text own peer) ≡ None
unfolding head_at
part_not_whole own peer = refl

pub heads_apart : (format : Format) (own peer : ℕ) → IsNode own → IsNode peer → IsPartHead (head_text format own peer) → ⊥
heads_apart format own peer p q part =
    let none : ◌≡◌ {A = Option (Format × ℕ × ℕ)} (Some (format, own, peer)) None =
    sym (head_again format own peer p q) ∙ ap head_at part.spelled ∙ part_not_whole part.own part.peer in
    cc
