-- The head: what is read is its one spelling, and its spelling is read.
use Rattle.std.proofs.Common.{◌≡◌, ℕ, List, ◌∷◌, ◌++◌, Option, Some, None, refl, ap, ◌∙◌, lit<}
use Rattle.std.proofs.lemmas.Option.{same_Some}
use Rattle.capture.specs.declared.format.Format.{Format}
use Rattle.capture.specs.declared.format.Format.TheVariants.{One, Two, Three}
use Rattle.capture.specs.Text.{address_text, format_text, head_text, spaced}
use Rattle.capture.specs.Range.{IsNode}
use Rattle.capture.specs.Reading.{after, cut_at, address_at, head_at, headed, nodes_at, or_else}
use Rattle.capture.proofs.PartLaws.{after_takes, cut_takes, cut_again, map_some}
use Rattle.capture.proofs.AddressLaws.{and_then, address_takes, address_again, address_lacks}

-- two addresses that were read
pub record AreNodesOf (text : List ℕ) (nodes : ℕ × ℕ) : Type 0 where
  pub spelled : text ≡ spaced (address_text nodes.0) (address_text nodes.1)
  pub own_fits : IsNode nodes.0
  pub peer_fits : IsNode nodes.1

pub nodes_take : (text : List ℕ) (nodes : ℕ × ℕ) → nodes_at text ≡ Some nodes → AreNodesOf text nodes
unfolding nodes_at
nodes_take text nodes e =
    let b = and_then (cut_at 32 text) _ nodes e in
    let c = and_then (address_at b.0.0) _ nodes b.2 in
    let d = and_then (address_at b.0.1) _ nodes c.2 in
    let first = address_takes b.0.0 c.0 c.1 in
    let second = address_takes b.0.1 d.0 d.1 in
    from_parts b.0.0 b.0.1 c.0 d.0 (cut_takes 32 text b.0 b.1) first second (same_Some _ _ d.2)
  where
    from_parts : (x y : List ℕ) (p q : ℕ) → text ≡ x ++ 32 ∷ y → (x ≡ address_text p) × IsNode p → (y ≡ address_text q) × IsNode q →
        ◌≡◌ {A = ℕ × ℕ} (p, q) nodes → AreNodesOf text nodes
    from_parts x y p q cut f s same =
        rw (← same) (record { spelled = cut ∙ rw (f.0, s.0) refl; own_fits = f.1; peer_fits = s.1 })

pub nodes_again : (own peer : ℕ) → IsNode own → IsNode peer → nodes_at (spaced (address_text own) (address_text peer)) ≡ Some (own, peer)
unfolding nodes_at
nodes_again own peer p q =
    rw (cut_again 32 (address_text own) (address_text peer) (address_lacks 32 own (lit< tt) p), address_again own p, address_again peer q) refl

-- a head that was read
pub record IsHeadOf (text : List ℕ) (format : Format) (own peer : ℕ) : Type 0 where
  pub spelled : text ≡ head_text format own peer
  pub own_fits : IsNode own
  pub peer_fits : IsNode peer

headed_takes : (found : Format) (text rest : List ℕ) (format : Format) (own peer : ℕ) → text ≡ format_text found ++ rest →
    headed found rest ≡ Some (format, own, peer) → IsHeadOf text format own peer
headed_takes found text rest format own peer cut e =
    let m = map_some (λ (nodes : ℕ × ℕ). (found, nodes.0, nodes.1)) (nodes_at rest) (format, own, peer) e in
    from_nodes m.0.0 m.0.1 (nodes_take rest m.0 m.1) m.2
  where
    from_nodes : (p q : ℕ) → AreNodesOf rest (p, q) → ◌≡◌ {A = Format × ℕ × ℕ} (found, p, q) (format, own, peer) → IsHeadOf text format own peer
    from_nodes p q n same =
        let format-is : found ≡ format = ap (λ (z : Format × ℕ × ℕ). z.0) same in
        let own-is : p ≡ own = ap (λ (z : Format × ℕ × ℕ). z.1) same in
        let peer-is : q ≡ peer = ap (λ (z : Format × ℕ × ℕ). z.2) same in
        record {
          spelled = cut ∙ ap (λ (t : List ℕ). format_text found ++ t) n.spelled ∙ rw (format-is, own-is, peer-is) refl;
          own_fits = rw (← own-is) n.own_fits;
          peer_fits = rw (← peer-is) n.peer_fits;
        }

pub head_takes : (text : List ℕ) (format : Format) (own peer : ℕ) → head_at text ≡ Some (format, own, peer) → IsHeadOf text format own peer
unfolding head_at
head_takes text format own peer e = by_first (after (format_text One) text) refl e
  where
    by_third : (o : Option (List ℕ)) → after (format_text Three) text ≡ o → or_else o (headed Three) None ≡ Some (format, own, peer) →
        IsHeadOf text format own peer
    by_third None begins f = absurd cc
    by_third (Some rest) begins f = headed_takes Three text rest format own peer (after_takes (format_text Three) text rest begins) f

    by_second : (o : Option (List ℕ)) → after (format_text Two) text ≡ o →
        or_else o (headed Two) (or_else (after (format_text Three) text) (headed Three) None) ≡ Some (format, own, peer) →
        IsHeadOf text format own peer
    by_second None begins f = by_third (after (format_text Three) text) refl f
    by_second (Some rest) begins f = headed_takes Two text rest format own peer (after_takes (format_text Two) text rest begins) f

    by_first : (o : Option (List ℕ)) → after (format_text One) text ≡ o →
        or_else o (headed One) (or_else (after (format_text Two) text) (headed Two) (or_else (after (format_text Three) text) (headed Three) None))
        ≡ Some (format, own, peer) → IsHeadOf text format own peer
    by_first None begins f = by_second (after (format_text Two) text) refl f
    by_first (Some rest) begins f = headed_takes One text rest format own peer (after_takes (format_text One) text rest begins) f

pub head_again : (format : Format) (own peer : ℕ) → IsNode own → IsNode peer → head_at (head_text format own peer) ≡ Some (format, own, peer)
unfolding head_at
head_again One own peer p q = rw (nodes_again own peer p q) refl
head_again Two own peer p q = rw (nodes_again own peer p q) refl
head_again Three own peer p q = rw (nodes_again own peer p q) refl
