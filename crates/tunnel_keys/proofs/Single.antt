-- An edit of one owner fits the keys.
use Rattle.std.specs.Prelude.{◌≡◌, ◌≢◌, [], ◌∷◌, None, IsSome}
use mathlib.Core.Path.{sym, ap, subst, ◌∙◌}
use mathlib.Core.Logic.{inl, inr}
use Rattle.std.proofs.lemmas.Option.{none-some, same_Some}
use Rattle.ovn_base.specs.lists.Among.{Among}
use Rattle.ovn_base.specs.declared.address.Birth.{Birth}
use Rattle.ovn_base.specs.declared.name.Name.{Name}
use Rattle.ovn_base.specs.names.ByName.{at}
use Rattle.ovn_base.proofs.AmongLaws.{among_none}
use Rattle.ovn_base.proofs.ByNameLaws.{at_among}
use Rattle.tunnel_keys.specs.Edits.{IsKeyEdit, IsLive, IsNew, IsThereAfter}
use Rattle.tunnel_keys.specs.Keys.{Keys, IsKeys}
use Rattle.tunnel_keys.specs.declared.owner.DatapathKey.{DatapathKey}
use Rattle.tunnel_keys.specs.declared.owner.HeldPort.{HeldPort}
use Rattle.tunnel_keys.specs.declared.owner.KeyOwner.{KeyOwner}
use Rattle.tunnel_keys.specs.declared.owner.KeyOwner.TheVariants.{Datapath, Port}
use Rattle.tunnel_keys.specs.declared.owner.PortKey.{PortKey}
use Rattle.tunnel_keys.specs.Owners.{name_in, birth_in, place_in}
use Rattle.tunnel_keys.proofs.HeldKeys.{found}
use Rattle.tunnel_keys.proofs.OwnerLaws.{not_port, the_one}

module _ (keys : Keys) (hold : IsKeys keys) where
  -- ---- live owners

  one_live_datapath : (name : Name) (b c : Birth) → IsLive keys (Datapath name b) → IsLive keys (Datapath name c) → b ≡ c
  one_live_datapath name b c h k = ap (λ (d : DatapathKey). d.birth) (same_Some (record { birth = b; key = h.0 }) (record { birth = c; key = k.0 }) (sym h.1 ∙ k.1))

  one_live_port : (d e name : Name) (b c : Birth) → IsLive keys (Port d name b) → IsLive keys (Port e name c) → (d ≡ e) × (b ≡ c)
  one_live_port d e name b c h k =
      let same = same_Some (record { birth = b; datapath = d; key = h.0 }) (record { birth = c; datapath = e; key = k.0 }) (sym h.1 ∙ k.1) in
      (ap (λ (p : PortKey). p.datapath) same, ap (λ (p : PortKey). p.birth) same)

  -- the datapath of a live port is live
  live_under : (d name : Name) (b : Birth) → IsLive keys (Port d name b) → (c : Birth) × IsLive keys (Datapath d c)
  live_under d name b live =
      let p : PortKey = record { birth = b; datapath = d; key = live.0 } in
      let under = found (at keys.datapaths d) (hold.on_datapath (name, p) (at_among keys.ports name p live.1)) in
      (under.0.birth, (under.0.key, under.1))

  -- ---- a datapath comes

  module _ (name : Name) (birth : Birth) (new : IsNew keys (Datapath name birth)) (bare : (a : HeldPort) → Among a keys.retired_ports → a.datapath ≢ record { name = name; birth = birth }) (absent : at keys.datapaths name ≡ None) where
    not_live : (other : Name) (b : Birth) → IsLive keys (Datapath other b) → other ≢ name
    not_live other b live same = none-some (record { birth = b; key = live.0 }) (sym absent ∙ ap (λ n. at keys.datapaths n) (sym same) ∙ live.1)

    port_lives : (d other : Name) (b : Birth) → IsThereAfter keys (Datapath name birth ∷ []) [] (Port d other b) → IsLive keys (Port d other b)
    port_lives d other b (inl old) = old.0
    port_lives d other b (inr come) = absurd (not_port name birth d other b (sym (the_one (Port d other b) (Datapath name birth) come)))

    pub datapath_fits : IsKeyEdit keys (Datapath name birth ∷ []) []
    datapath_fits = record {
      added_once = (λ among. among_none (Datapath name birth) among, tt);
      removed_once = tt;
      removed_live = λ owner among. absurd (among_none owner among);
      added_new = λ owner among. subst (λ o. IsNew keys o) (sym (the_one owner (Datapath name birth) among)) new;
      added_bare = λ other b among a retired.
          let one = the_one (Datapath other b) (Datapath name birth) among in
          λ same. bare a retired (same ∙ (λ i. record { name = name_in (one i); birth = birth_in (one i) }));
      one_datapath = λ other b c h k. elim h [
        | inl old ↦ elim k [
          | inl too ↦ one_live_datapath other b c old.0 too.0
          | inr come ↦ absurd (not_live other b old.0 (ap name_in (the_one (Datapath other c) (Datapath name birth) come)))
        ]
        | inr come ↦ elim k [
          | inl old ↦ absurd (not_live other c old.0 (ap name_in (the_one (Datapath other b) (Datapath name birth) come)))
          | inr too ↦ ap birth_in (the_one (Datapath other b) (Datapath name birth) come) ∙ sym (ap birth_in (the_one (Datapath other c) (Datapath name birth) too))
        ]
      ];
      one_port = λ d e other b c h k. one_live_port d e other b c (port_lives d other b h) (port_lives e other c k);
      has_datapath = λ d other b h. let under = live_under d other b (port_lives d other b h) in (under.0, inl (under.1, λ among. among_none (Datapath d under.0) among));
    }

  -- ---- a port comes onto a datapath

  module _ (datapath name : Name) (birth : Birth) (new : IsNew keys (Port datapath name birth)) (there : IsSome (at keys.datapaths datapath)) (absent : at keys.ports name ≡ None) where
    no_live_port : (d other : Name) (b : Birth) → IsLive keys (Port d other b) → other ≢ name
    no_live_port d other b live same = none-some (record { birth = b; datapath = d; key = live.0 }) (sym absent ∙ ap (λ n. at keys.ports n) (sym same) ∙ live.1)

    datapath_lives : (other : Name) (b : Birth) → IsThereAfter keys (Port datapath name birth ∷ []) [] (Datapath other b) → IsLive keys (Datapath other b)
    datapath_lives other b (inl old) = old.0
    datapath_lives other b (inr come) = absurd (not_port other b datapath name birth (the_one (Datapath other b) (Port datapath name birth) come))

    lives_on : (c : Birth) × IsLive keys (Datapath datapath c)
    lives_on = let d = found (at keys.datapaths datapath) there in (d.0.birth, (d.0.key, d.1))

    pub port_fits : IsKeyEdit keys (Port datapath name birth ∷ []) []
    port_fits = record {
      added_once = (λ among. among_none (Port datapath name birth) among, tt);
      removed_once = tt;
      removed_live = λ owner among. absurd (among_none owner among);
      added_new = λ owner among. subst (λ o. IsNew keys o) (sym (the_one owner (Port datapath name birth) among)) new;
      added_bare = λ other b among. absurd (not_port other b datapath name birth (the_one (Datapath other b) (Port datapath name birth) among));
      one_datapath = λ other b c h k. one_live_datapath other b c (datapath_lives other b h) (datapath_lives other c k);
      one_port = λ d e other b c h k. elim h [
        | inl old ↦ elim k [
          | inl too ↦ one_live_port d e other b c old.0 too.0
          | inr come ↦ absurd (no_live_port d other b old.0 (ap name_in (the_one (Port e other c) (Port datapath name birth) come)))
        ]
        | inr come ↦ elim k [
          | inl old ↦ absurd (no_live_port e other c old.0 (ap name_in (the_one (Port d other b) (Port datapath name birth) come)))
          | inr too ↦
              let one = the_one (Port d other b) (Port datapath name birth) come in
              let two = the_one (Port e other c) (Port datapath name birth) too in
              (ap place_in one ∙ sym (ap place_in two), ap birth_in one ∙ sym (ap birth_in two))
        ]
      ];
      has_datapath = λ d other b h. elim h [
        | inl old ↦ let under = live_under d other b old.0 in (under.0, inl (under.1, λ among. among_none (Datapath d under.0) among))
        | inr come ↦
            let on : d ≡ datapath = ap place_in (the_one (Port d other b) (Port datapath name birth) come) in
            (lives_on.0, inl (subst (λ n. IsLive keys (Datapath n lives_on.0)) (sym on) lives_on.1, λ among. among_none (Datapath d lives_on.0) among))
      ];
    }

  -- ---- a port goes

  module _ (datapath name : Name) (birth : Birth) (live : IsLive keys (Port datapath name birth)) where
    was_live : (o : KeyOwner) → IsThereAfter keys [] (Port datapath name birth ∷ []) o → IsLive keys o
    was_live o (inl old) = old.0
    was_live o (inr come) = absurd (among_none o come)

    pub port_goes : IsKeyEdit keys [] (Port datapath name birth ∷ [])
    port_goes = record {
      added_once = tt;
      removed_once = (λ among. among_none (Port datapath name birth) among, tt);
      removed_live = λ owner among. subst (λ o. IsLive keys o) (sym (the_one owner (Port datapath name birth) among)) live;
      added_new = λ owner among. absurd (among_none owner among);
      added_bare = λ other b among. absurd (among_none (Datapath other b) among);
      one_datapath = λ other b c h k. one_live_datapath other b c (was_live (Datapath other b) h) (was_live (Datapath other c) k);
      one_port = λ d e other b c h k. one_live_port d e other b c (was_live (Port d other b) h) (was_live (Port e other c) k);
      has_datapath = λ d other b h.
          let under = live_under d other b (was_live (Port d other b) h) in
          (under.0, inl (under.1, λ among. not_port d under.0 datapath name birth (the_one (Datapath d under.0) (Port datapath name birth) among)));
    }
