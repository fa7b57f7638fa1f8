-- Owners by which records differ.
use Rattle.std.specs.Prelude.{◌⊎◌, not, List}
use Rattle.std.proofs.Common.{sym, ◌∙◌, inl, inr}
use Rattle.std.proofs.lemmas.Bool.{cases_Bool, true≢false}
use Rattle.ovn_base.specs.lists.Among.{Among}
use Rattle.ovn_base.proofs.AmongLaws.{among_filter, filter_among}
use Rattle.nb_records.specs.Network.{Network}
use Rattle.net_model.specs.Owners.{owners_of, owners_only_in}
use Rattle.tunnel_keys.specs.Owners.{is_listed}
use Rattle.tunnel_keys.specs.declared.owner.KeyOwner.{KeyOwner}
use Rattle.tunnel_keys.proofs.OwnerLaws.{listed_among, among_listed, unlisted_not, not_unlisted}

-- an owner is one of them or not
pub one_of : (owners : List KeyOwner) (o : KeyOwner) → Among o owners ⊎ (¬ Among o owners)
one_of owners o = elim (cases_Bool (is_listed owners o)) [
  | inl is ↦ inl (listed_among owners o is)
  | inr other ↦ inr (λ m. true≢false (sym (among_listed owners o m) ∙ other))
]

module _ (one another : Network) where
  -- those that are only in the one are in it and not in the other
  pub only_in : (o : KeyOwner) → Among o (owners_only_in one another) → Among o (owners_of one) × (¬ Among o (owners_of another))
  only_in o m = let r = filter_among (λ x. not (is_listed (owners_of another) x)) o (owners_of one) m in (r.0, unlisted_not (owners_of another) o r.1)

  -- and the other way round
  pub in_only : (o : KeyOwner) → Among o (owners_of one) → (¬ Among o (owners_of another)) → Among o (owners_only_in one another)
  in_only o m none = among_filter (λ x. not (is_listed (owners_of another) x)) o (owners_of one) m (not_unlisted (owners_of another) o none)
