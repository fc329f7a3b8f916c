-- What the links of an end of the player choose next is due, and its message is there to be put together.
use Rattle.dna_play.proofs.Prelude.{◌≡◌, ℕ, suc, ◌+◌, Option, Some, None, List, [], ◌∷◌, refl, sym, ap, ◌∙◌, subst, arith, slice_get, same_Some}
use Rattle.dna_play.proofs.Prelude.{NspValue, DisconnectConfirm, LinkOf, TrueSegments, Links, LinkOwed, EndConfirm, Duty, LinkEnd, LinkChoice}
use Rattle.dna_play.proofs.Prelude.{Confirms, OfLink, duty_of, duty_or_next, first_duty, link_choice, duty_message, message_at, link_message}
use Rattle.dna_play.proofs.Prelude.{StoredLinks, LinkList}
use Rattle.dna_play.proofs.Links.Pays.{end_of, IsDue, duty_due}
use Rattle.dna_play.proofs.{Links.Keeps.At, Links.Keeps.kept_of, Links.Stage.LinkHolds}

-- it is the duty of the first link that has one
pub record FirstDuty (ends : List LinkEnd) (from : ℕ) (c : LinkChoice) : Type 0 where
  pub place : ℕ
  pub duty : Duty
  pub is : OfLink (from + place) duty ≡ c
  pub e : LinkEnd
  pub there : slice_get ends place ≡ Some e
  pub has : duty_of e ≡ Some duty

pub first_chosen : (from : ℕ) (ends : List LinkEnd) (c : LinkChoice) → first_duty from ends ≡ Some c → FirstDuty ends from c
first_chosen from [] c e = absurd cc
first_chosen from (first ∷ ends) c e = go (first_chosen (from + 1) ends c) (duty_of first) refl e
  where
    go : (first_duty (from + 1) ends ≡ Some c → FirstDuty ends (from + 1) c) → (o : Option Duty) → duty_of first ≡ o →
        duty_or_next from o (first_duty (from + 1) ends) ≡ Some c → FirstDuty (first ∷ ends) from c
    go later None is e =
        let x = later e in let same : from + suc x.place ≡ from + 1 + x.place = omega arith in
        record { place = suc x.place; duty = x.duty; is = rw same x.is; e = x.e; there = x.there; has = x.has }
    go later (Some duty) is e =
        let same : from + 0 ≡ from = omega arith in
        record { place = 0; duty = duty; is = rw same (same_Some (OfLink from duty) c e); e = first; there = refl; has = is }

-- ---- what is asked of the links

-- what is due at a link, or the oldest DC that is owed; and its message
pub data IsAsked (links : LinkList) (kept : StoredLinks) : LinkChoice → NspValue → Type 0 where
  OfDuty : (n place : ℕ) (duty : Duty) (l : LinkOf TrueSegments) (o : LinkOwed) → At l o n place links kept.links → IsDue (end_of l o) duty →
      IsAsked links kept (OfLink place duty) (duty_message duty (end_of l o))
  OfConfirm : (confirm : EndConfirm) → slice_get kept.confirms 0 ≡ Some confirm →
      IsAsked links kept (Confirms confirm) (DisconnectConfirm confirm.dst confirm.src confirm.reason)

module _ (s : Links) (most : ℕ) (kept : StoredLinks) (h : LinkHolds s.links most kept) where
  pub record Asked (c : LinkChoice) : Type 0 where
    pub message : NspValue
    pub put : link_message c kept.links ≡ Some message
    pub is : IsAsked s.links kept c message

  duty_asked : (c : LinkChoice) → FirstDuty kept.links 0 c → Asked c
  duty_asked c t =
      let of_it = kept_of t.place t.e h.keeps t.there in let same : t.place ≡ 0 + t.place = omega arith in
      subst Asked (ap (λ (n : ℕ). OfLink n t.duty) same ∙ t.is) (record {
        message = duty_message t.duty (end_of of_it.link of_it.owed);
        put = ap (λ (o : Option LinkEnd). message_at o t.duty) (t.there ∙ ap Some (sym of_it.is));
        is = OfDuty of_it.number t.place t.duty of_it.link of_it.owed of_it.at
            (subst (λ (e : LinkEnd). IsDue e t.duty) (sym of_it.is) (duty_due t.e t.duty t.has));
      })

  pub asked_of : (c : LinkChoice) → link_choice kept.confirms kept.links ≡ Some c → Asked c
  asked_of c e = go kept.confirms refl e
    where
      go : (confirms : List EndConfirm) → kept.confirms ≡ confirms → link_choice confirms kept.links ≡ Some c → Asked c
      go [] is e = duty_asked c (first_chosen 0 kept.links c e)
      go (confirm ∷ later) is e = subst Asked (same_Some (Confirms confirm) c e) (record {
        message = DisconnectConfirm confirm.dst confirm.src confirm.reason;
        put = refl;
        is = OfConfirm confirm (ap (λ (l : List EndConfirm). slice_get l 0) is);
      })
