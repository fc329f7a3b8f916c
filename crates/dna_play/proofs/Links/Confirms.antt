-- A DC that is owed names a link that is over, and stays so.
use Rattle.dna_play.proofs.Prelude.{◌≡◌, ℕ, ◌≤◌, Bool, true, false, ◌&&◌, ◌||◌, Option, Some, None, refl, sym, ap, ap₂, ◌∙◌, subst, ◌⊎◌, inl, inr}
use Rattle.dna_play.proofs.Prelude.{slice_get, and-true, or-true, and_parts, ended, Phase, Confirming, Running, Port, TheLink, CallingAt, is_live}
use Rattle.dna_play.proofs.Prelude.{is_calling, is_connected, is_at, has_both, passes, LinkOf, number_of, with_link, changed, PartnerRule}
use Rattle.dna_play.proofs.Prelude.{ends_link, TrueSegments, true_segments, Links, EndConfirm, looked, position_none, at_is, at_set, LinkList}
use Rattle.dna_play.proofs.Prelude.{AreAddressed}
use Rattle.dna_play.proofs.Links.Pays.{is_there}

-- a link with this port might be, or come to be, one that goes with that far address
abbrev pub may_be : (far : ℕ) → Port → Bool
may_be far port = is_live port.phase && (is_calling port.phase || is_at port.far far)

-- this link is none that a DC names, or it is over
abbrev pub IsPast : EndConfirm → LinkOf TrueSegments → Type 0
IsPast confirm m = m.port.own ≡ Some confirm.src → may_be confirm.dst m.port ≡ false

-- of the link that a DC names: its address was given, and it is over
pub record IsDone (links : LinkList) (most : ℕ) (confirm : EndConfirm) : Type 0 where
  pub given : confirm.src ≤ most
  pub over : (j : ℕ) (m : LinkOf TrueSegments) → slice_get links j ≡ Some m → IsPast confirm m

pub done_over : (s : Links) (most : ℕ) (confirm : EndConfirm) → IsDone s.links most confirm → (j : ℕ) (m : LinkOf TrueSegments) →
    slice_get s.links j ≡ Some m → passes (TheLink confirm.src confirm.dst) m.port ≡ true → ⊥
done_over s most confirm d j m at passed =
    let p = and_parts (is_live m.port.phase) (has_both m.port confirm.src confirm.dst) passed in
    let q = and_parts (is_at m.port.own confirm.src) (is_at m.port.far confirm.dst) p.1 in
    let f = d.over j m at (at_is m.port.own confirm.src q.0) in
    let t = ap₂ (λ (b c : Bool). b && c) p.0 (ap (λ (b : Bool). is_calling m.port.phase || b) q.1 ∙ or-true _) in
    cc

pub connected_past : (phase : Phase) (far : ℕ) (known : Option ℕ) → is_connected phase ≡ true →
    (is_live phase && (is_calling phase || is_at known far)) ≡ false → is_at known far ≡ false
connected_past Confirming far known c e = e
connected_past Running far known c e = e
connected_past phase far known c e = absurd cc

-- a DI that has come leaves no link that its DC would name
module _ (s : Links) (others : LinkList) (most : ℕ) (addressed : AreAddressed s.links others most) (rule : PartnerRule) (own far reason : ℕ)
    (given : own ≤ most) where
  abbrev confirm : EndConfirm
  confirm = record { dst = far; src = own; reason = reason }

  -- the link with its address is ended
  ended_is_done : (number : ℕ) (link : LinkOf TrueSegments) → slice_get s.links number ≡ Some link → is_at link.port.own own ≡ true →
      IsDone (changed number (ended true_segments link) s).links most confirm
  ended_is_done number link there at = record {
    given = given;
    over = λ j m found e. go j m e
        (at_set s.links number j (ended true_segments link) m found);
  }
    where
      go : (j : ℕ) (m : LinkOf TrueSegments) → m.port.own ≡ Some own →
          ((j ≡ number) × (ended true_segments link ≡ m)) ⊎ ((j ≡ number → ⊥) × (slice_get s.links j ≡ Some m)) → may_be far m.port ≡ false
      go j m e (inl is) = ap (λ (x : LinkOf TrueSegments). may_be far x.port) (sym is.1)
      go j m e (inr is) = absurd (is.0 (addressed.distinct j number own (record { link = m; there = is.1; owns = e })
          (record { link = link; there = there; owns = at_is link.port.own own at })))

  none_is_done : number_of (TheLink own far) s ≡ None → number_of (CallingAt own) s ≡ None → IsDone s.links most confirm
  none_is_done no_link not_calling = record {
    given = given;
    over = λ j m at e.
        let owns = is_there m.port.own own e in
        let calls = rw (owns, and-true) at (position_none (λ (k : LinkOf TrueSegments). passes (CallingAt own) k.port) s.links j m not_calling at) in
        rw calls (rw owns at (position_none (λ (k : LinkOf TrueSegments). passes (TheLink own far) k.port) s.links j m no_link at));
  }

  pub end_done : IsDone (ends_link true_segments rule own far s).links most confirm
  end_done = looked (TheLink own far) s (with_link (CallingAt own) s s (λ number link. changed number (ended true_segments link) s))
      (λ number link. changed number (ended true_segments link) s) _ refl
      (λ none e. subst (λ (x : Links). IsDone x.links most confirm) e
      (looked (CallingAt own) s s (λ number link. changed number (ended true_segments link) s) _ refl
      (λ not_calling f. subst (λ (x : Links). IsDone x.links most confirm) f (none_is_done none not_calling))
      (λ number link found f. subst (λ (x : Links). IsDone x.links most confirm) f
      (ended_is_done number link found.there (and_parts (is_calling link.port.phase) _ found.passed).1))))
      (λ number link found e. subst (λ (x : Links). IsDone x.links most confirm) e
      (ended_is_done number link found.there (and_parts (is_at link.port.own own) _ (and_parts (is_live link.port.phase) _ found.passed).1).0))
