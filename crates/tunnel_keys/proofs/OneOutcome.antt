-- An edit determines who has keys, and which.
use Rattle.std.specs.Prelude.{not, ◌≡◌, ◌≢◌, ℕ, suc, ◌↔◌, List, [], ◌∷◌, length, map, take, Some, refl}
use mathlib.Core.Path.{sym, ap, subst, ◌∙◌}
use mathlib.Core.Logic.{inl, inr}
use native.Mathlib.Omega.{arith}
use Rattle.std.specs.List.Sorted.{IsStrictlySortedBy}
use Rattle.std.specs.Map.{keys_of}
use Rattle.std.specs.Cmp.Lexicographic.{slice_cmp}
use Rattle.std.specs.Ordering.{nat_cmp}
use Rattle.ovn_base.specs.lists.Among.{Among, here, there}
use Rattle.ovn_base.proofs.AmongLaws.{among_map, map_among}
use Rattle.ovn_base.specs.declared.name.Name.{Name}
use Rattle.ovn_base.specs.declared.address.Birth.{Birth}
use Rattle.ovn_base.specs.names.ByName.{at, IsByName}
use Rattle.tunnel_keys.specs.Owners.{is_listed}
use Rattle.tunnel_keys.specs.Keys.{Keys, IsKeys, retire, port_owner, datapath_owner, free_datapath_keys, free_port_keys}
use Rattle.tunnel_keys.specs.Edits.{IsAfter, IsLive, IsThereAfter, GivesKeys, GivesLeastKeys, GivesLeastDatapathKeys, GivesLeastPortKeys}
use Rattle.tunnel_keys.specs.Giving.{with_keys, new_datapath_key, new_port_key}
use Rattle.tunnel_keys.specs.declared.owner.Identity.{Identity}
use Rattle.tunnel_keys.specs.declared.owner.DatapathKey.{DatapathKey}
use Rattle.tunnel_keys.specs.declared.owner.PortKey.{PortKey}
use Rattle.tunnel_keys.specs.declared.owner.HeldDatapath.{HeldDatapath}
use Rattle.tunnel_keys.specs.declared.owner.HeldPort.{HeldPort}
use Rattle.tunnel_keys.specs.declared.owner.KeyOwner.{KeyOwner}
use Rattle.tunnel_keys.specs.declared.owner.KeyOwner.TheVariants.{Datapath, Port}
use Rattle.ovn_base.proofs.SameEntries.{same_entries, same_found}
use Rattle.tunnel_keys.proofs.Lists.{at_filter, filter_at}
use Rattle.tunnel_keys.proofs.KeyOrder.{one_order}
use Rattle.tunnel_keys.proofs.OwnerLaws.{unlisted_not, not_unlisted}

-- ---- owners with the first free keys

no_head : (k : ℕ) (ks : List ℕ) → (k ∷ ks) ≢ []
no_head k ks h = let e : suc (length ks) ≡ 0 = ap length h in omega (arith, e)

abbrev head_of : ℕ → List ℕ → ℕ
head_of d [] = d
head_of d (k ∷ ks) = k

abbrev tail_of : List ℕ → List ℕ
tail_of [] = []
tail_of (k ∷ ks) = ks

module _ {X : Type 0} (make : Birth → ℕ → X) (birth_of : X → Birth) (key_of : X → ℕ) where
  abbrev births : List (Name × X) → List (Name × Birth)
  births es = map (λ e. (e.0, birth_of e.1)) es

  abbrev IsWhole : List (Name × X) → Type 0
  IsWhole es = (e : Name × X) → Among e es → make (birth_of e.1) (key_of e.1) ≡ e.1

  side_by_side : (given : List (Name × X)) (free : List ℕ) → IsWhole given → map (λ e. key_of e.1) given ≡ take (length given) free → given ≡ with_keys make (births given) free
  side_by_side [] free whole h = refl
  side_by_side (e ∷ es) [] whole h = absurd (no_head (key_of e.1) (map (λ f. key_of f.1) es) h)
  side_by_side (e ∷ es) (k ∷ ks) whole h =
      let first : key_of e.1 ≡ k = ap (head_of k) h in
      let value : e.1 ≡ make (birth_of e.1) k = sym (whole e here) ∙ ap (λ j. make (birth_of e.1) j) first in
      let rest = side_by_side es ks (λ f m. whole f (there m)) (ap tail_of h) in
      λ i. (e.0, value i) ∷ rest i

  births_sorted : (es : List (Name × X)) → IsByName es → IsByName (births es)
  births_sorted es s = subst (IsStrictlySortedBy (slice_cmp nat_cmp)) (sym (names es)) s
    where
      names : (es : List (Name × X)) → keys_of (births es) ≡ keys_of es
      names [] = refl
      names (e ∷ es) = ap (λ ns. e.0 ∷ ns) (names es)

  -- of two lists with the same owners, each with the first free keys, both are one
  pub one_given : (free : List ℕ) (es fs : List (Name × X)) → IsByName es → IsByName fs → IsWhole es → IsWhole fs
      → map (λ e. key_of e.1) es ≡ take (length es) free → map (λ e. key_of e.1) fs ≡ take (length fs) free
      → ((n : Name) (v : X) → Among (n, v) es → (w : X) × Among (n, w) fs × (birth_of w ≡ birth_of v))
      → ((n : Name) (v : X) → Among (n, v) fs → (w : X) × Among (n, w) es × (birth_of w ≡ birth_of v)) → es ≡ fs
  one_given free es fs s t v w p q there_too here_too =
      let same = same_entries (births es) (births fs) (births_sorted es s) (births_sorted fs t) (moved es fs there_too) (moved fs es here_too) in
      side_by_side es free v p ∙ ap (λ bs. with_keys make bs free) same ∙ sym (side_by_side fs free w q)
    where
      moved : (es fs : List (Name × X)) → ((n : Name) (v : X) → Among (n, v) es → (w : X) × Among (n, w) fs × (birth_of w ≡ birth_of v)) → (b : Name × Birth) → Among b (births es) → Among b (births fs)
      moved es fs h b m =
          let r = map_among (λ (e : Name × X). (e.0, birth_of e.1)) b es m in
          let w = h r.0.0 r.0.1 r.1 in
          let same : (r.0.0, birth_of w.0) ≡ b = ap (λ x. (r.0.0, x)) w.2 ∙ sym r.2 in
          subst (λ x. Among x (births fs)) same (among_map (λ (e : Name × X). (e.0, birth_of e.1)) (r.0.0, w.0) fs w.1)

-- ---- one result

module _ (keys : Keys) (added removed : List KeyOwner) where
  datapath_same : (a b : Keys) → GivesKeys keys added removed a → GivesLeastKeys (retire keys removed) added a → GivesKeys keys added removed b → GivesLeastKeys (retire keys removed) added b
      → (n : Name) (d : DatapathKey) → at a.datapaths n ≡ Some d → at b.datapaths n ≡ Some d
  datapath_same a b ga la gb lb n d f = elim (ga.datapath_cases n d f) [
    | inl old ↦ gb.datapath_kept n d old
    | inr new ↦
        let same : la.to_datapaths.given ≡ lb.to_datapaths.given =
        one_given new_datapath_key (λ x. x.birth) (λ x. x.key) (free_datapath_keys (retire keys removed)) la.to_datapaths.given lb.to_datapaths.given la.to_datapaths.order lb.to_datapaths.order (λ e m. refl) (λ e m. refl) la.to_datapaths.least lb.to_datapaths.least
        (moved a b ga la.to_datapaths gb lb.to_datapaths) (moved b a gb lb.to_datapaths ga la.to_datapaths) in
        ((lb.to_datapaths.who (n, d)).0 (subst (λ l. Among (n, d) l) same ((la.to_datapaths.who (n, d)).1 (new, f)))).1
  ]
    where
      moved : (a b : Keys) → GivesKeys keys added removed a → (la : GivesLeastDatapathKeys (retire keys removed) added a) → GivesKeys keys added removed b → (lb : GivesLeastDatapathKeys (retire keys removed) added b)
          → (n : Name) (v : DatapathKey) → Among (n, v) la.given → (w : DatapathKey) × Among (n, w) lb.given × (w.birth ≡ v.birth)
      moved a b ga la gb lb n v m =
          let who = (la.who (n, v)).0 m in
          let g = gb.datapath_given n v.birth who.0 in
          let w : DatapathKey = record { birth = v.birth; key = g.0 } in
          (w, (lb.who (n, w)).1 (who.0, g.1), refl)

  port_same : (a b : Keys) → a.datapaths ≡ b.datapaths → GivesKeys keys added removed a → GivesLeastKeys (retire keys removed) added a → GivesKeys keys added removed b → GivesLeastKeys (retire keys removed) added b
      → (n : Name) (p : PortKey) → at a.ports n ≡ Some p → at b.ports n ≡ Some p
  port_same a b datapaths ga la gb lb n p f = elim (ga.port_cases n p f) [
    | inl old ↦ gb.port_kept n p old
    | inr new ↦
        let here = ga.port_given p.datapath n p.birth new in
        let d = here.1 in
        let on : Identity = record { name = p.datapath; birth = d.birth } in
        let pa = la.to_ports p.datapath d here.3 in
        let pb = lb.to_ports p.datapath d (ap (λ l. at l p.datapath) (sym datapaths) ∙ here.3) in
        let same : pa.given ≡ pb.given =
        one_given (new_port_key p.datapath) (λ x. x.birth) (λ x. x.key) (free_port_keys (retire keys removed) on) pa.given pb.given pa.order pb.order (λ e m. whole e.1 ((pa.who e).0 m).0) (λ e m. whole e.1 ((pb.who e).0 m).0) pa.least pb.least
        (moved a b ga on pa gb pb) (moved b a gb on pb ga pa) in
        ((pb.who (n, p)).0 (subst (λ l. Among (n, p) l) same ((pa.who (n, p)).1 (refl, new, f)))).2
  ]
    where
      whole : (v : PortKey) → v.datapath ≡ p.datapath → new_port_key p.datapath v.birth v.key ≡ v
      whole v on = λ i. record { birth = v.birth; datapath = sym on i; key = v.key }

      moved : (a b : Keys) → GivesKeys keys added removed a → (on : Identity) → (pa : GivesLeastPortKeys (retire keys removed) added a on) → GivesKeys keys added removed b → (pb : GivesLeastPortKeys (retire keys removed) added b on)
          → (n : Name) (v : PortKey) → Among (n, v) pa.given → (w : PortKey) × Among (n, w) pb.given × (w.birth ≡ v.birth)
      moved a b ga on pa gb pb n v m =
          let who = (pa.who (n, v)).0 m in
          let g = gb.port_given v.datapath n v.birth who.1 in
          let w : PortKey = record { birth = v.birth; datapath = v.datapath; key = g.0 } in
          (w, (pb.who (n, w)).1 (who.0, who.1, g.2), refl)

  pub one_result : (a b : Keys) → IsAfter keys added removed a → IsAfter keys added removed b → a ≡ b
  one_result a b one two =
      let ha = one.hold in
      let ga = one.gives in
      let la = one.least in
      let hb = two.hold in
      let gb = two.gives in
      let lb = two.least in
      let datapaths = same_found a.datapaths b.datapaths ha.datapaths_in_order hb.datapaths_in_order (datapath_same a b ga la gb lb) (datapath_same b a gb lb ga la) in
      let ports = same_found a.ports b.ports ha.ports_in_order hb.ports_in_order (port_same a b datapaths ga la gb lb) (port_same b a (sym datapaths) gb lb ga la) in
      let first = ga.datapath_range ∙ sym gb.datapath_range in
      let second = ga.port_range ∙ sym gb.port_range in
      let third = one_order (λ (h : HeldDatapath). h.owner) (retire keys removed).retired_datapaths a.retired_datapaths b.retired_datapaths ga.retired_datapaths gb.retired_datapaths in
      let fourth = one_order (λ (h : HeldPort). h.owner) (retire keys removed).retired_ports a.retired_ports b.retired_ports ga.retired_ports gb.retired_ports in
      λ i. record { datapath_range = first i; port_range = second i; datapaths = datapaths i; ports = ports i; retired_datapaths = third i; retired_ports = fourth i }

-- ---- who has a live key

module _ (keys : Keys) (added removed : List KeyOwner) (after : Keys) (hold : IsKeys keys) (gives : GivesKeys keys added removed after) where
  live_there : (owner : KeyOwner) → IsLive after owner → IsThereAfter keys added removed owner
  live_there (Datapath n b) live = elim (gives.datapath_cases n (record { birth = b; key = live.0 }) live.1) [
    | inl f ↦
        let r = filter_at (λ e. not (is_listed removed (datapath_owner e))) keys.datapaths hold.datapaths_in_order n (record { birth = b; key = live.0 }) f in
        inl ((live.0, r.0), unlisted_not removed (Datapath n b) r.1)
    | inr m ↦ inr m
  ]
  live_there (Port d n b) live = elim (gives.port_cases n (record { birth = b; datapath = d; key = live.0 }) live.1) [
    | inl f ↦
        let r = filter_at (λ e. not (is_listed removed (port_owner e))) keys.ports hold.ports_in_order n (record { birth = b; datapath = d; key = live.0 }) f in
        inl ((live.0, r.0), unlisted_not removed (Port d n b) r.1)
    | inr m ↦ inr m
  ]

  there_live : (owner : KeyOwner) → IsThereAfter keys added removed owner → IsLive after owner
  there_live (Datapath n b) (inl old) =
      let d : DatapathKey = record { birth = b; key = old.0.0 } in
      (old.0.0, gives.datapath_kept n d (at_filter (λ e. not (is_listed removed (datapath_owner e))) keys.datapaths hold.datapaths_in_order n d old.0.1 (not_unlisted removed (Datapath n b) old.1)))
  there_live (Datapath n b) (inr new) = let g = gives.datapath_given n b new in (g.0, g.1)
  there_live (Port d n b) (inl old) =
      let p : PortKey = record { birth = b; datapath = d; key = old.0.0 } in
      (old.0.0, gives.port_kept n p (at_filter (λ e. not (is_listed removed (port_owner e))) keys.ports hold.ports_in_order n p old.0.1 (not_unlisted removed (Port d n b) old.1)))
  there_live (Port d n b) (inr new) = let g = gives.port_given d n b new in (g.0, g.2)

  pub live_after : (owner : KeyOwner) → IsLive after owner ↔ IsThereAfter keys added removed owner
  live_after owner = (live_there owner, there_live owner)
