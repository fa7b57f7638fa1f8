-- Each edit of a register fits the keys, and keeps what the register knows.
use Rattle.std.specs.Prelude.{◌≡◌, ◌<◌, ◌+◌, ℕ, true, false, [], ◌∷◌, Option, Some, None, IsSome, IfSome, is_some}
use mathlib.Core.Path.{sym, ap, subst, ◌∙◌}
use mathlib.Core.Logic.{inl, inr}
use native.Mathlib.Omega.{arith}
use Rattle.std.specs.Option.{option_map}
use Rattle.std.proofs.lemmas.Bool.{true≢false}
use Rattle.ovn_base.specs.lists.Among.{here}
use Rattle.ovn_base.specs.declared.address.Birth.{Birth}
use Rattle.ovn_base.specs.declared.name.Name.{Name}
use Rattle.ovn_base.specs.names.ByName.{at}
use Rattle.ovn_base.proofs.AmongLaws.{among_none}
use Rattle.tunnel_keys.specs.Births.{AreKeysBorn}
use Rattle.tunnel_keys.specs.Edits.{IsAfter, IsKeyEdit, IsLive}
use Rattle.tunnel_keys.specs.Keys.{Keys, IsKeys, settled}
use Rattle.tunnel_keys.specs.Owners.{birth_in}
use Rattle.tunnel_keys.specs.declared.owner.KeyOwner.{KeyOwner}
use Rattle.tunnel_keys.specs.declared.owner.KeyOwner.TheVariants.{Datapath, Port}
use Rattle.tunnel_keys.proofs.Births.{born_later, settled_born, datapath_new, datapath_bare, port_new, keys_born}
use Rattle.tunnel_keys.proofs.OneOutcome.{live_after}
use Rattle.tunnel_keys.proofs.OwnerLaws.{the_one}
use Rattle.tunnel_keys.proofs.Single.{datapath_fits, port_fits, port_goes}
use Rattle.key_tests.specs.Register.{IsLivePort, IsRegister}

-- what maps to nothing is nothing
nothing : {X Y : Type 0} (f : X → Y) (o : Option X) → is_some (option_map f o) ≡ false → o ≡ None
nothing f None h = λ i. None
nothing f (Some x) h = absurd (true≢false h)

something : {X Y : Type 0} (f : X → Y) (o : Option X) → is_some (option_map f o) ≡ true → IsSome o
something f None h = absurd (true≢false (sym h))
something f (Some x) h = h

pub settled_register : (keys : Keys) (last : ℕ) (port : Option KeyOwner) → IsRegister keys last port → IsRegister (settled keys) last port
settled_register keys last port r = record { born = settled_born keys last r.born; live = still port r.live }
  where
    same : (o : KeyOwner) → IsLive keys o → IsLive (settled keys) o
    same (Datapath name b) h = h
    same (Port d name b) h = h

    still : (o : Option KeyOwner) → IfSome o (λ p. IsLivePort keys p) → IfSome o (λ p. IsLivePort (settled keys) p)
    still None h = tt
    still (Some p) h = record { datapath = h.datapath; name = h.name; birth = h.birth; is = h.is; live = same p h.live }

module _ (keys : Keys) (last : ℕ) (port : Option KeyOwner) (r : IsRegister keys last port) (hold : IsKeys keys) where
  module _ (next : ℕ) (is_next : next ≡ last + 1) where
    abbrev birth : Birth
    birth = record { 0 = next }

    later : last < birth.0
    later = omega (arith, is_next)

    pub datapath_comes : (name : Name) → is_some (option_map (λ d. d.key) (at keys.datapaths name)) ≡ false → IsKeyEdit keys (Datapath name birth ∷ []) []
    datapath_comes name absent = datapath_fits keys hold name birth (datapath_new keys last r.born birth later name) (datapath_bare keys last r.born birth later name) (nothing (λ d. d.key) (at keys.datapaths name) absent)

    pub port_comes : (datapath name : Name) → is_some (option_map (λ d. d.key) (at keys.datapaths datapath)) ≡ true → is_some (option_map (λ p. p.key) (at keys.ports name)) ≡ false → IsKeyEdit keys (Port datapath name birth ∷ []) []
    port_comes datapath name there absent = port_fits keys hold datapath name birth (port_new keys last r.born birth later datapath name) (something (λ d. d.key) (at keys.datapaths datapath) there) (nothing (λ p. p.key) (at keys.ports name) absent)

    module _ (owner : KeyOwner) (born : birth_in owner ≡ birth) (after : Keys) (made : IsAfter keys (owner ∷ []) [] after) where
      born_then : AreKeysBorn after next
      born_then = keys_born keys (owner ∷ []) [] after next hold made.hold made.gives (born_later keys last next (omega (arith, is_next)) r.born)
          (λ o m. let same : (birth_in o).0 ≡ next = ap (λ k. (birth_in k).0) (the_one o owner m) ∙ ap (λ (b : Birth). b.0) born in omega (arith, same))

      live_then : (o : Option KeyOwner) → IfSome o (λ p. IsLivePort keys p) → IfSome o (λ p. IsLivePort after p)
      live_then None h = tt
      live_then (Some p) h = record {
        datapath = h.datapath;
        name = h.name;
        birth = h.birth;
        is = h.is;
        live = (live_after keys (owner ∷ []) [] after hold made.gives p).1 (inl (h.live, λ m. among_none p m));
      }

      pub other_came : IsRegister after next port
      other_came = record { born = born_then; live = live_then port r.live }

      pub port_came : (datapath name : Name) → owner ≡ Port datapath name birth → IsRegister after next (Some owner)
      port_came datapath name is = record {
        born = born_then;
        live = record { datapath = datapath; name = name; birth = birth; is = is; live = (live_after keys (owner ∷ []) [] after hold made.gives owner).1 (inr here) };
      }

  module _ (owner : KeyOwner) (is_last : port ≡ Some owner) where
    last_live : IsLivePort keys owner
    last_live = subst (λ o. IfSome o (λ p. IsLivePort keys p)) is_last r.live

    pub last_goes : IsKeyEdit keys [] (owner ∷ [])
    last_goes =
        let live = last_live in
        subst (λ o. IsKeyEdit keys [] (o ∷ [])) (sym live.is) (port_goes keys hold live.datapath live.name live.birth (subst (λ o. IsLive keys o) live.is live.live))

    pub last_gone : (after : Keys) → IsAfter keys [] (owner ∷ []) after → IsRegister after last None
    last_gone after made = record { born = keys_born keys [] (owner ∷ []) after last hold made.hold made.gives r.born (λ o m. absurd (among_none o m)); live = tt }
