-- What an effect makes of a link goes along with what is left of it, and keeps its addresses.
use Rattle.dna_leaving.proofs.Prelude.{◌≡◌, ℕ, Bool, true, false, Option, Some, None, List, [], ◌∷◌, map, fold, refl, sym, ap, ◌∙◌, subst, Phase}
use Rattle.dna_leaving.proofs.Prelude.{Running, Disconnecting, Queues, Without, With, is_live, SegmentBook, LinkOf, LinkTruth, goes_on, goes_to}
use Rattle.dna_leaving.proofs.Prelude.{ends_by_message, drops, forgotten, booted_link, shows_by, settled, Effect, OpenHere, GiveAddress, Connect}
use Rattle.dna_leaving.proofs.Prelude.{GoTo, End, Drop, EndAll, Say, Settle, Keep, HandIn, TakeSegment, TakeAcks, does, kept, Marks, LeftOut}
use Rattle.dna_leaving.proofs.Prelude.{link_left, truth_left, OwnFits, FarFits, IsOfJudged, LinkFits}
use Rattle.dna_leaving.proofs.LookUps.{NamesOwn}

module _ {D K : Type 0} (queues : Queues) (book : SegmentBook D K) (there : Marks) where
  goes_left : (phase : Phase) (link : LinkOf D) → link_left there (goes_to book queues phase link) ≡ goes_to book queues phase (link_left there link)
  goes_left phase link = by_queues queues
    where
      on : (b : Bool) → link_left there (goes_on book b phase link) ≡ goes_on book b phase (link_left there link)
      on true = refl
      on false = refl

      by_queues : (q : Queues) → link_left there (goes_to book q phase link) ≡ goes_to book q phase (link_left there link)
      by_queues Without = refl
      by_queues With = on (is_live link.port.phase)

  ends_left : (q : Queues) (link : LinkOf D) → link_left there (ends_by_message book q link) ≡ ends_by_message book q (link_left there link)
  ends_left Without link = refl
  ends_left With link = refl

  drops_left : (q : Queues) (link : LinkOf D) → link_left there (drops book q link) ≡ drops book q (link_left there link)
  drops_left Without link = refl
  drops_left With link = refl

  pub forgotten_left : (q : Queues) (link : LinkOf D) → link_left there (forgotten book q link) ≡ forgotten book q (link_left there link)
  forgotten_left Without link = refl
  forgotten_left With link = refl

  pub booted_left : (q : Queues) (link : LinkOf D) → link_left there (booted_link book q link) ≡ booted_link book q (link_left there link)
  booted_left Without link = refl
  booted_left With link = refl

  pub all_booted_left : (links : List (LinkOf D)) →
      map (link_left there) (map (booted_link book queues) links) ≡ map (booted_link book queues) (map (link_left there) links)
  all_booted_left [] = refl
  all_booted_left (link ∷ links) =
      ap (λ (l : LinkOf D). l ∷ map (link_left there) (map (booted_link book queues) links)) (booted_left queues link)
      ∙ ap (λ (ls : List (LinkOf D)). booted_link book queues (link_left there link) ∷ ls) (all_booted_left links)

  pub settled_left : (waits : Option Phase) (link : LinkOf D) → link_left there (settled book waits link) ≡ settled book waits (link_left there link)
  settled_left None link = by_phase link.port.phase
    where
      by_phase : (phase : Phase) → link_left there (shows_by book phase link) ≡ shows_by book phase (link_left there link)
      by_phase Running = refl
      by_phase Disconnecting = refl
      by_phase phase = refl
  settled_left (Some phase) link = refl

  module _ (here : Marks) (truth : LinkTruth K) where
    does_left : (link : LinkOf D) (effect : Effect) →
        link_left there (does queues book truth link effect) ≡ does queues book (truth_left there here truth) (link_left there link) effect
    does_left link OpenHere = refl
    does_left link (GiveAddress own) = refl
    does_left link (Connect far segsize) = refl
    does_left link (GoTo phase) = goes_left phase link
    does_left link End = ends_left queues link
    does_left link Drop = drops_left queues link
    does_left link EndAll = refl
    does_left link (Say said) = refl
    does_left link (Settle own) = refl
    does_left link Keep = refl
    does_left link (HandIn message) = refl
    does_left link (TakeSegment segment) = refl
    does_left link (TakeAcks acks) = refl

    pub all_left : (effects : List Effect) (link : LinkOf D) →
        link_left there (fold (does queues book truth) link effects)
        ≡ fold (does queues book (truth_left there here truth)) (link_left there link) effects
    all_left [] link = refl
    all_left (effect ∷ effects) link =
        all_left effects (does queues book truth link effect)
        ∙ ap (λ (l : LinkOf D). fold (does queues book (truth_left there here truth)) l effects) (does_left link effect)

-- ---- addresses

module _ (out : LeftOut) (there : Marks) (b : Bool) where
  abbrev pub EffectFits : (partner : Option ℕ) → Effect → Type 0
  EffectFits partner (GiveAddress own) = OwnFits out b (Some own)
  EffectFits partner (Connect far segsize) = FarFits out b (Some far) × (b ≡ true → IsOfJudged there partner)
  EffectFits partner (Settle own) = b ≡ false → NamesOwn out false own
  EffectFits partner EndAll = b ≡ true
  EffectFits partner effect = Unit {0}

  abbrev pub AllFit : (partner : Option ℕ) → List Effect → Type 0
  AllFit partner [] = Unit {0}
  AllFit partner (effect ∷ effects) = EffectFits partner effect × AllFit partner effects

  pub kept_fit : (queues : Queues) (partner : Option ℕ) (effects : List Effect) → AllFit partner effects → AllFit partner (kept queues effects)
  kept_fit With partner effects fit = fit
  kept_fit Without partner [] fit = fit
  kept_fit Without partner (Say said ∷ effects) fit = kept_fit Without partner effects fit.1
  kept_fit Without partner (Settle own ∷ effects) fit = kept_fit Without partner effects fit.1
  kept_fit Without partner (effect ∷ effects) fit = (fit.0, kept_fit Without partner effects fit.1)

  module _ {D : Type 0} where
    -- the same addresses and partner
    pub record IsAddressedAs (before now : LinkOf D) : Type 0 where
      pub own : now.port.own ≡ before.port.own
      pub far : now.port.far ≡ before.port.far
      pub partner : now.partner ≡ before.partner

    pub as_before : (before now : LinkOf D) → IsAddressedAs before now → LinkFits out there b before → LinkFits out there b now
    as_before before now same fits = record {
      own = subst (OwnFits out b) (sym same.own) fits.own;
      far = subst (FarFits out b) (sym same.far) fits.far;
      partner = λ is. subst (IsOfJudged there) (sym same.partner) (fits.partner is);
    }

    pub forgets_own : (before now : LinkOf D) → now.port.own ≡ None → now.port.far ≡ before.port.far → now.partner ≡ before.partner →
        LinkFits out there b before → LinkFits out there b now
    forgets_own before now own far partner fits = record {
      own = subst (OwnFits out b) (sym own) tt;
      far = subst (FarFits out b) (sym far) fits.far;
      partner = λ is. subst (IsOfJudged there) (sym partner) (fits.partner is);
    }

  module _ {D K : Type 0} (queues : Queues) (book : SegmentBook D K) where
    goes_fit : (phase : Phase) (link : LinkOf D) → IsAddressedAs link (goes_to book queues phase link)
    goes_fit phase link = by_queues queues
      where
        on : (c : Bool) → IsAddressedAs link (goes_on book c phase link)
        on true = record { own = refl; far = refl; partner = refl }
        on false = record { own = refl; far = refl; partner = refl }

        by_queues : (q : Queues) → IsAddressedAs link (goes_to book q phase link)
        by_queues Without = record { own = refl; far = refl; partner = refl }
        by_queues With = on (is_live link.port.phase)

    ends_fit : (q : Queues) (link : LinkOf D) → IsAddressedAs link (ends_by_message book q link)
    ends_fit Without link = record { own = refl; far = refl; partner = refl }
    ends_fit With link = record { own = refl; far = refl; partner = refl }

    drops_fit : (q : Queues) (link : LinkOf D) → IsAddressedAs link (drops book q link)
    drops_fit Without link = record { own = refl; far = refl; partner = refl }
    drops_fit With link = record { own = refl; far = refl; partner = refl }

    pub settled_fit : (waits : Option Phase) (link : LinkOf D) → IsAddressedAs link (settled book waits link)
    settled_fit None link = by_phase link.port.phase
      where
        by_phase : (phase : Phase) → IsAddressedAs link (shows_by book phase link)
        by_phase Running = record { own = refl; far = refl; partner = refl }
        by_phase Disconnecting = record { own = refl; far = refl; partner = refl }
        by_phase phase = record { own = refl; far = refl; partner = refl }
    settled_fit (Some phase) link = record { own = refl; far = refl; partner = refl }

    pub forgotten_fit : (q : Queues) (link : LinkOf D) → LinkFits out there b link → LinkFits out there b (forgotten book q link)
    forgotten_fit Without link fits = forgets_own link (forgotten book Without link) refl refl refl fits
    forgotten_fit With link fits = forgets_own link (forgotten book With link) refl refl refl fits

    pub booted_fit : (q : Queues) (link : LinkOf D) → LinkFits out there b link → LinkFits out there b (booted_link book q link)
    booted_fit Without link fits = forgets_own link (booted_link book Without link) refl refl refl fits
    booted_fit With link fits = forgets_own link (booted_link book With link) refl refl refl fits

    module _ (truth : LinkTruth K) where
      does_fit : (link : LinkOf D) (effect : Effect) → EffectFits truth.tag.link effect → LinkFits out there b link →
          LinkFits out there b (does queues book truth link effect)
      does_fit link OpenHere e fits = as_before link _ (record { own = refl; far = refl; partner = refl }) fits
      does_fit link (GiveAddress own) e fits = record { own = e; far = fits.far; partner = fits.partner }
      does_fit link (Connect far segsize) e fits = record { own = fits.own; far = e.0; partner = e.1 }
      does_fit link (GoTo phase) e fits = as_before link (goes_to book queues phase link) (goes_fit phase link) fits
      does_fit link End e fits = as_before link (ends_by_message book queues link) (ends_fit queues link) fits
      does_fit link Drop e fits = as_before link (drops book queues link) (drops_fit queues link) fits
      does_fit link EndAll e fits = fits
      does_fit link (Say said) e fits = as_before link _ (record { own = refl; far = refl; partner = refl }) fits
      does_fit link (Settle own) e fits = fits
      does_fit link Keep e fits = fits
      does_fit link (HandIn message) e fits = as_before link _ (record { own = refl; far = refl; partner = refl }) fits
      does_fit link (TakeSegment segment) e fits = as_before link _ (record { own = refl; far = refl; partner = refl }) fits
      does_fit link (TakeAcks acks) e fits = as_before link _ (record { own = refl; far = refl; partner = refl }) fits

      pub all_fit : (effects : List Effect) (link : LinkOf D) → AllFit truth.tag.link effects → LinkFits out there b link →
          LinkFits out there b (fold (does queues book truth) link effects)
      all_fit [] link e fits = fits
      all_fit (effect ∷ effects) link e fits = all_fit effects (does queues book truth link effect) e.1 (does_fit link effect e.0 fits)
