-- What the code does with a packet that begins a connection is what an action does.
use Rattle.std.specs.Prelude.{◌≡◌, ◌==◌, nat_eq, length, slice_get, ℕ, Bool, true, false, cond, List, [], ◌∷◌, ◌++◌, Option, Some, None, option_map, Result, Ok, Err, refl}
use Rattle.std.specs.List.{filter}
use Rattle.std.specs.Map.{lookup, set_value}
use Rattle.std.proofs.Common.{arith, sym, ap, ◌∙◌, subst, append_assoc}
use Rattle.std.proofs.lemmas.Bool.{and_from}
use Rattle.std.specs.Cmp.{unsigned_Decides}
use Rattle.std.proofs.lemmas.Option.{none-some, same_Some, slice_get-get_or}
use Rattle.std.proofs.lemmas.Map.Keys.{any_passes_from_place}
use Rattle.std.proofs.Math.Nat.{mod-lt}
use Rattle.ovn_base.specs.declared.address.Backend.{Backend}
use Rattle.ovn_base.specs.declared.address.Ip4.{Ip4}
use Rattle.inet_packet.specs.declared.packet.Packet.{Packet}
use Rattle.conn_table.specs.Connections.{ConnectionList, is_free, committed}
use Rattle.conn_table.specs.declared.connection.CommitFault.{CommitFault}
use Rattle.conn_table.specs.declared.tuple.Tuple.{Tuple}
use Rattle.conn_table.specs.Picks.{Choice, to_backend, to_port, choose_backend, choose_port, from_address, towards, with_port, is_backend_of, is_free_backend, is_backend, is_backend_at, backend_index, is_first_choice, is_least_port, may_pick, has_free_port}
use Rattle.conn_table.specs.Tracking.{Seen, forward, reply, invalid, new, seen}
use Rattle.conn_table.specs.Tuples.{reversed, with_tuple}
use Rattle.flow_table.specs.declared.flow.Cause.{Cause}
use Rattle.flow_table.specs.declared.flow.Cause.TheVariants.{NoLiveBackend, NoFreePort}
use Rattle.switch_engine.specs.declared.actions.Turn.{Turn}
use Rattle.switch_engine.specs.declared.actions.Turn.TheVariants.{Next, Ends}
use Rattle.switch_engine.specs.declared.carried.Carried.{Carried}
use Rattle.switch_engine.specs.declared.effect.Effect.{Effect}
use Rattle.switch_engine.specs.declared.effect.Effect.TheVariants.{PickBackend, PickPort}
use Rattle.switch_engine.specs.Actions.{drop_at}
use Rattle.switch_engine.specs.Acts.{Doing, Act, goes_next, drops}
use Rattle.switch_engine.specs.Advance.{having, ActionDoes}
use Rattle.switch_engine.specs.Beginning.{new_tuple, backend_of, commit_refusal, list_after, refusal_in, zones_after}
use Rattle.switch_engine.specs.Commits.{commit_cause, Newcomer, newcomer_seen, newcomer_in, newcomer, begins_as, begins, added, adds, balances_over, picks_port}
use Rattle.switch_engine.specs.Zones.{ZoneLists, zone_at, with_zone, over_list}
use Rattle.switch_engine.proofs.Doings.{does_quietly, does_drop}

-- ---- newcomers

-- where a newcomer was found, the zone is there
pub record IsAt (z : ℕ) (zones : ZoneLists) (p : Packet) (n : Newcomer) : Type 0 where
  pub zone : n.zone ≡ z
  pub list : zone_at zones z ≡ Some n.list
  pub is_new : seen n.list p ≡ new n.tuple

pub newcomer_at : (z : ℕ) (zones : ZoneLists) (p : Packet) (n : Newcomer) → newcomer z zones p ≡ Some n → IsAt z zones p n
newcomer_at z zones p n is = by_zone (zone_at zones z) refl is
  where
    by_seen : (list : ConnectionList) → zone_at zones z ≡ Some list → (s : Seen) → seen list p ≡ s → newcomer_seen z list s ≡ Some n → IsAt z zones p n
    by_seen list there (new t) sees h = subst (IsAt z zones p) (same_Some _ _ h) (record { zone = refl; list = there; is_new = sees })
    by_seen list there (forward e) sees h = absurd (none-some n h)
    by_seen list there (reply e) sees h = absurd (none-some n h)
    by_seen list there invalid sees h = absurd (none-some n h)

    by_zone : (o : Option ConnectionList) → zone_at zones z ≡ o → newcomer_in z o p ≡ Some n → IsAt z zones p n
    by_zone None there h = absurd (none-some n h)
    by_zone (Some list) there h = by_seen list there (seen list p) refl h

-- a packet with a new tuple is a newcomer
pub record IsOne (z : ℕ) (zones : ZoneLists) (p : Packet) (t : Tuple) : Type 0 where
  pub one : Newcomer
  pub is : newcomer z zones p ≡ Some one
  pub tuple : one.tuple ≡ t

pub is_one : (z : ℕ) (zones : ZoneLists) (p : Packet) (t : Tuple) → new_tuple z zones p ≡ Some t → IsOne z zones p t
is_one z zones p t h = by (newcomer z zones p) refl h
  where
    by : (o : Option Newcomer) → newcomer z zones p ≡ o → option_map (λ (n : Newcomer). n.tuple) o ≡ Some t → IsOne z zones p t
    by None is g = absurd (none-some t g)
    by (Some n) is g = record { one = n; is = is; tuple = same_Some _ _ g }

-- one without is none
pub is_none_new : (z : ℕ) (zones : ZoneLists) (p : Packet) → new_tuple z zones p ≡ None → newcomer z zones p ≡ None
is_none_new z zones p h = by (newcomer z zones p) h
  where
    by : (o : Option Newcomer) → option_map (λ (n : Newcomer). n.tuple) o ≡ None → o ≡ None
    by None g = refl
    by (Some n) g = absurd (none-some n.tuple (sym g))

-- ---- adding

-- the list of a zone in its own place
same_list : (zones : ZoneLists) (z : ℕ) (list : ConnectionList) → zone_at zones z ≡ Some list → with_zone zones z list ≡ zones
same_list [] z list h = absurd (none-some list h)
same_list (e ∷ zones) z list h = by (nat_eq z e.0) (same_list zones z list) h
  where
    by : (b : Bool) → (zone_at zones z ≡ Some list → with_zone zones z list ≡ zones) → cond b (Some e.1) (zone_at zones z) ≡ Some list → cond b ((e.0, list) ∷ zones) (e ∷ with_zone zones z list) ≡ e ∷ zones
    by true ih g = ap (λ (l : ConnectionList). (e.0, l) ∷ zones) (sym (same_Some _ _ g))
    by false ih g = ap (λ zs. e ∷ zs) (ih g)

refused_none : (z : ℕ) (p : Packet) (copy : Carried) (zones : ZoneLists) (list : ConnectionList) (rest : List Choice) (r : Result ConnectionList CommitFault) → commit_refusal r ≡ None
    → added z p (having copy zones [] rest) r ≡ goes_next (having (record copy { packet = p }) (with_zone zones z (list_after list r)) [] rest)
refused_none z p copy zones list rest (Ok longer) h = refl
refused_none z p copy zones list rest (Err why) h = absurd (none-some (commit_cause why) (sym h))

refused_some : (z : ℕ) (p : Packet) (d : Doing) (cause : Cause) (r : Result ConnectionList CommitFault) → commit_refusal r ≡ Some cause → added z p d r ≡ drops cause d
refused_some z p d cause (Ok longer) h = absurd (none-some cause h)
refused_some z p d cause (Err why) h = ap (λ c. drops c d) (same_Some _ _ h)

refused_list : (list : ConnectionList) (cause : Cause) (r : Result ConnectionList CommitFault) → commit_refusal r ≡ Some cause → list_after list r ≡ list
refused_list list cause (Ok longer) h = absurd (none-some cause h)
refused_list list cause (Err why) h = refl

module _ (now z : ℕ) (zones : ZoneLists) (copy : Carried) (n : Newcomer) (is : newcomer z zones copy.packet ≡ Some n) (from back : Tuple) (tuple : n.tuple ≡ from) (p : Packet) where
  -- what comes of it, said of the newcomer's list
  of_list : (o : Option Cause) → refusal_in now from back (zone_at zones z) ≡ o → commit_refusal (committed n.list n.tuple back now) ≡ o
  of_list o h = ap (λ t. commit_refusal (committed n.list t back now)) tuple ∙ ap (refusal_in now from back) (sym (newcomer_at z zones copy.packet n is).list) ∙ h

  of_zones : (after : ZoneLists) → after ≡ zones_after now z from back zones → after ≡ with_zone zones z (list_after n.list (committed n.list n.tuple back now))
  of_zones after h =
      h ∙ ap (over_list (λ list. list_after list (committed list from back now)) z zones) (newcomer_at z zones copy.packet n is).list
      ∙ ap (λ t. with_zone zones z (list_after n.list (committed n.list t back now))) (sym tuple)

  in_zone : (d : Doing) → adds now n back p d ≡ added z p d (committed n.list n.tuple back now)
  in_zone d = ap (λ k. added k p d (committed n.list n.tuple back now)) (newcomer_at z zones copy.packet n is).zone

  -- the connection is there
  pub does_add : {after : ZoneLists} {effects all : List Effect} → refusal_in now from back (zone_at zones z) ≡ None → after ≡ zones_after now z from back zones → all ≡ effects
      → ActionDoes (adds now n back p) Next copy (record copy { packet = p }) zones after effects all []
  does_add {after} h left same = does_quietly same (λ rest.
      in_zone (having copy zones [] rest)
      ∙ refused_none z p copy zones n.list rest (committed n.list n.tuple back now) (of_list None h)
      ∙ ap (λ zs. goes_next (having (record copy { packet = p }) zs [] rest)) (sym (of_zones after left)))

  -- it isn't added
  pub does_refuse : {after : ZoneLists} {effects all : List Effect} (cause : Cause) → refusal_in now from back (zone_at zones z) ≡ Some cause → after ≡ zones_after now z from back zones → all ≡ effects ++ drop_at copy.table cause copy.regs ∷ []
      → ActionDoes (adds now n back p) Ends copy copy zones after effects all []
  does_refuse {after} {effects} {all} cause h left told =
      let stay : after ≡ zones =
      of_zones after left ∙ ap (with_zone zones z) (refused_list n.list cause (committed n.list n.tuple back now) (of_list (Some cause) h)) ∙ same_list zones z n.list (newcomer_at z zones copy.packet n is).list in
      subst (λ zs. ActionDoes (adds now n back p) Ends copy copy zones zs effects all []) (sym stay)
      (does_drop cause told (λ rest. in_zone (having copy zones [] rest) ∙ refused_some z p (having copy zones [] rest) cause (committed n.list n.tuple back now) (of_list (Some cause) h)))

-- ---- what begins

pub does_begin : {z : ℕ} {begin : Newcomer → Doing → Act} {t : Turn} {copy next : Carried} {zones after : ZoneLists} {effects all : List Effect} {copies : List Carried} (n : Newcomer) → newcomer z zones copy.packet ≡ Some n
    → ActionDoes (begin n) t copy next zones after effects all copies → ActionDoes (begins z begin) t copy next zones after effects all copies
does_begin {begin = begin} {copy = copy} {zones = zones} n is d = record { told = d.told; all_effects = d.all_effects; sent = d.sent; does = λ rest. ap (λ o. begins_as o begin (having copy zones d.told rest)) is ∙ d.does rest }

-- ---- a backend

same_backend : (b : Backend) → is_backend b b ≡ true
same_backend b = and_from _ _ ((unsigned_Decides b.ip.0 b.ip.0).1 refl) ((unsigned_Decides b.port b.port).1 refl)

-- the one at the index is one of them, and the program's
pub picked_of : (legal : List Backend) (i : ℕ) (b : Backend) → slice_get legal i ≡ Some b → is_backend_of legal b ≡ true
picked_of legal i b at = any_passes_from_place (is_backend b) legal i b at (same_backend b)

pub picked_first : (t : Tuple) (legal : List Backend) (b : Backend) → backend_of t legal ≡ Some b → is_first_choice t legal b ≡ true
picked_first t legal b at = ap (λ o. is_backend_at o b) at ∙ same_backend b

pub does_balance : {copy next : Carried} {zones after : ZoneLists} {effects more all : List Effect} {t : Turn} (now : ℕ) (vip : Backend) (n : Newcomer) (legal : List Backend) (b : Backend) → backend_of n.tuple legal ≡ Some b
    → more ≡ effects ++ PickBackend copy.regs.dp vip b ∷ []
    → ActionDoes (adds now n (reversed (towards b n.tuple)) (with_tuple (towards b n.tuple) copy.packet)) t copy next zones after more all []
    → ActionDoes (balances_over now vip legal n) t copy next zones after effects all []
does_balance now vip n [] b at told d = absurd (none-some b at)
does_balance {copy} {next} {zones} {after} {effects} {more} {all} {t} now vip n (c ∷ cs) b at told d = record {
  told = PickBackend copy.regs.dp vip b ∷ d.told;
  all_effects = d.all_effects ∙ ap (λ es. es ++ d.told) told ∙ append_assoc effects (PickBackend copy.regs.dp vip b ∷ []) d.told;
  sent = (tt, d.sent);
  does = λ rest.
      ap (λ (a : Act). record a { effects = PickBackend copy.regs.dp vip b ∷ a.effects; legal = is_backend_of (c ∷ cs) b; own = is_first_choice n.tuple (c ∷ cs) b }) (d.does rest)
      ∙ ap (λ (l : Bool). record { turn = t; after = having next after [] rest; effects = PickBackend copy.regs.dp vip b ∷ d.told; made = []; legal = l; own = is_first_choice n.tuple (c ∷ cs) b }) (picked_of (c ∷ cs) _ b at)
      ∙ ap (λ (l : Bool). record { turn = t; after = having next after [] rest; effects = PickBackend copy.regs.dp vip b ∷ d.told; made = []; legal = true; own = l }) (picked_first n.tuple (c ∷ cs) b at);
}

-- none is there
pub no_backend : (t : Tuple) (legal : List Backend) → backend_of t legal ≡ None → legal ≡ []
no_backend t [] h = refl
no_backend t (b ∷ bs) h = absurd (none-some _ (sym h ∙ slice_get-get_or (b ∷ bs) (backend_index t (length (b ∷ bs))) b (mod-lt _ (omega arith))))

-- ---- a port

pub does_hide : {copy next : Carried} {zones after : ZoneLists} {effects more all : List Effect} {t : Turn} (now : ℕ) (n : Newcomer) (back : Tuple) (port : ℕ) → may_pick n.list back port ≡ true → is_least_port n.list back port ≡ true
    → more ≡ effects ++ PickPort copy.regs.dp port ∷ []
    → ActionDoes (adds now n (with_port port back) (with_tuple (reversed (with_port port back)) copy.packet)) t copy next zones after more all []
    → ActionDoes (picks_port now true back n) t copy next zones after effects all []
does_hide {copy} {next} {zones} {after} {effects} {more} {all} {t} now n back port may least told d = record {
  told = PickPort copy.regs.dp port ∷ d.told;
  all_effects = d.all_effects ∙ ap (λ es. es ++ d.told) told ∙ append_assoc effects (PickPort copy.regs.dp port ∷ []) d.told;
  sent = (tt, d.sent);
  does = λ rest.
      ap (λ (a : Act). record a { effects = PickPort copy.regs.dp port ∷ a.effects; legal = may_pick n.list back port; own = is_least_port n.list back port }) (d.does rest)
      ∙ ap (λ (l : Bool). record { turn = t; after = having next after [] rest; effects = PickPort copy.regs.dp port ∷ d.told; made = []; legal = l; own = is_least_port n.list back port }) may
      ∙ ap (λ (l : Bool). record { turn = t; after = having next after [] rest; effects = PickPort copy.regs.dp port ∷ d.told; made = []; legal = true; own = l }) least;
}
