-- The four actions that begin a connection.
use Rattle.std.specs.Prelude.{◌≡◌, ◌++◌, ℕ, Bool, true, false, cond, List, [], ◌∷◌, Option, Some, None, option_map, refl}
use Rattle.std.specs.List.{filter}
use Rattle.std.proofs.Common.{sym, ap, ◌∙◌, subst}
use Rattle.std.proofs.lemmas.Option.{same_Some}
use Rattle.ovn_base.specs.declared.address.Backend.{Backend}
use Rattle.ovn_base.specs.declared.address.Ip4.{Ip4}
use Rattle.conn_table.specs.Connections.{ConnectionList, is_free}
use Rattle.conn_table.specs.declared.tuple.Tuple.{Tuple}
use Rattle.conn_table.specs.Picks.{to_address, from_address, towards, with_port, is_free_backend, has_free_port, may_pick, is_least_port}
use Rattle.conn_table.specs.Tuples.{reversed, with_tuple}
use Rattle.flow_table.specs.declared.flow.Cause.TheVariants.{NoLiveBackend, NoFreePort}
use Rattle.switch_engine.specs.declared.actions.Turn.{Turn}
use Rattle.switch_engine.specs.declared.actions.Turn.TheVariants.{Next, Ends}
use Rattle.switch_engine.specs.declared.carried.Carried.{Carried}
use Rattle.switch_engine.specs.declared.effect.Effect.{Effect}
use Rattle.switch_engine.specs.declared.effect.Effect.TheVariants.{PickBackend, PickPort}
use Rattle.switch_engine.specs.Actions.{drop_at}
use Rattle.switch_engine.specs.Acts.{Doing, Act, goes_next, drops}
use Rattle.switch_engine.specs.Advance.{having, ActionDoes}
use Rattle.switch_engine.specs.Beginning.{new_tuple, backend_of, backend_in, IsSource, IsSourceIn}
use Rattle.switch_engine.specs.declared.commits.Source.{Source}
use Rattle.switch_engine.specs.declared.commits.Source.TheVariants.{Kept, Port, NoneFree}
use Rattle.switch_engine.specs.Commits.{Newcomer, newcomer, begins, adds, commits, translates_to, is_balanced, balances_over, balances, translates_from, picks_port, keeps_port, hides_behind}
use Rattle.switch_engine.specs.Zones.{ZoneLists, zone_at}
use Rattle.switch_engine.proofs.Doings.{does_quietly, does_drop, does_same}
use Rattle.switch_engine.proofs.Beginnings.{IsOne, is_one, newcomer_at, does_begin, does_balance, no_backend, does_hide}

-- the newcomer has the tuple
pub tuple_is : (z : ℕ) (zones : ZoneLists) (copy : Carried) (from : Tuple) (n : Newcomer) → new_tuple z zones copy.packet ≡ Some from → newcomer z zones copy.packet ≡ Some n → n.tuple ≡ from
tuple_is z zones copy from n h is = same_Some _ _ (sym (ap (option_map (λ (m : Newcomer). m.tuple)) is) ∙ h)

-- the reply tuple of the port that it has
kept_is : (now : ℕ) (ip : Ip4) (from kept : Tuple) (n : Newcomer) → n.tuple ≡ from → kept ≡ reversed (from_address ip from) → (d : Doing) → hides_behind now ip n d ≡ keeps_port now (is_free n.list kept) kept n d
kept_is now ip from kept n is k d =
    ap (λ (u : Tuple). keeps_port now (is_free n.list (reversed (from_address ip u))) (reversed (from_address ip u)) n d) is ∙ ap (λ u. keeps_port now (is_free n.list u) u n d) (sym k)

module _ (now : ℕ) {z : ℕ} {zones after : ZoneLists} {copy next : Carried} {t : Turn} {effects all : List Effect} (from : Tuple) (h : new_tuple z zones copy.packet ≡ Some from) where
  pub commit_does : (back : Tuple) → back ≡ reversed from → ((n : Newcomer) → newcomer z zones copy.packet ≡ Some n → ActionDoes (adds now n back copy.packet) t copy next zones after effects all []) → ActionDoes (begins z (commits now)) t copy next zones after effects all []
  commit_does back b each =
      let o : IsOne z zones copy.packet from = is_one z zones copy.packet from h in
      does_begin o.one o.is (does_same
      (λ d c zs. ap (λ (x : Carried). adds now o.one (reversed o.one.tuple) x.packet d) c ∙ ap (λ u. adds now o.one (reversed u) copy.packet d) o.tuple ∙ ap (λ u. adds now o.one u copy.packet d) (sym b))
      (each o.one o.is))

  pub dnat_does : (ip : Ip4) (to back : Tuple) → to ≡ to_address ip from → back ≡ reversed to → ((n : Newcomer) → newcomer z zones copy.packet ≡ Some n → ActionDoes (adds now n back (with_tuple to copy.packet)) t copy next zones after effects all [])
      → ActionDoes (begins z (translates_to now ip)) t copy next zones after effects all []
  dnat_does ip to back is b each =
      let o : IsOne z zones copy.packet from = is_one z zones copy.packet from h in
      does_begin o.one o.is (does_same
      (λ d c zs.
      ap (λ (x : Carried). adds now o.one (reversed (to_address ip o.one.tuple)) (with_tuple (to_address ip o.one.tuple) x.packet) d) c
      ∙ ap (λ u. adds now o.one (reversed (to_address ip u)) (with_tuple (to_address ip u) copy.packet) d) o.tuple
      ∙ ap (λ u. adds now o.one (reversed u) (with_tuple u copy.packet) d) (sym is)
      ∙ ap (λ u. adds now o.one u (with_tuple to copy.packet) d) (sym b))
      (each o.one o.is))

  pub balance_does : {more : List Effect} (vip : Backend) (bs : List Backend) (b : Backend) (to back : Tuple) → is_balanced from.protocol ≡ true → backend_in from bs (zone_at zones z) ≡ Some b → to ≡ towards b from → back ≡ reversed to
      → more ≡ effects ++ PickBackend copy.regs.dp vip b ∷ []
      → ((n : Newcomer) → newcomer z zones copy.packet ≡ Some n → ActionDoes (adds now n back (with_tuple to copy.packet)) t copy next zones after more all [])
      → ActionDoes (begins z (balances now vip bs)) t copy next zones after effects all []
  balance_does {more} vip bs b to back tcp picks is bk told each =
      let o : IsOne z zones copy.packet from = is_one z zones copy.packet from h in
      let n = o.one in
      let legal = filter (is_free_backend n.list n.tuple) bs in
      let at : backend_of n.tuple legal ≡ Some b =
      ap (λ u. backend_of u (filter (is_free_backend n.list u) bs)) o.tuple ∙ ap (backend_in from bs) (sym (newcomer_at z zones copy.packet n o.is).list) ∙ picks in
      let inner : ActionDoes (adds now n (reversed (towards b n.tuple)) (with_tuple (towards b n.tuple) copy.packet)) t copy next zones after more all [] =
      does_same
      (λ d c zs.
      ap (λ u. adds now n (reversed (towards b u)) (with_tuple (towards b u) copy.packet) d) o.tuple
      ∙ ap (λ u. adds now n (reversed u) (with_tuple u copy.packet) d) (sym is)
      ∙ ap (λ u. adds now n u (with_tuple to copy.packet) d) (sym bk))
      (each n o.is) in
      does_begin n o.is (does_same
      (λ d c zs. ap (λ (u : Tuple). cond (is_balanced u.protocol) (balances_over now vip legal n d) (goes_next d)) o.tuple ∙ ap (λ b. cond b (balances_over now vip legal n d) (goes_next d)) tcp)
      (does_balance now vip n legal b at told inner))

  pub keep_does : (ip : Ip4) (kept to : Tuple) → kept ≡ reversed (from_address ip from) → IsSourceIn kept Kept (zone_at zones z) → to ≡ reversed kept
      → ((n : Newcomer) → newcomer z zones copy.packet ≡ Some n → ActionDoes (adds now n kept (with_tuple to copy.packet)) t copy next zones after effects all [])
      → ActionDoes (begins z (hides_behind now ip)) t copy next zones after effects all []
  keep_does ip kept to k source is each =
      let o : IsOne z zones copy.packet from = is_one z zones copy.packet from h in
      let free : is_free o.one.list kept ≡ true = subst (IsSourceIn kept Kept) (newcomer_at z zones copy.packet o.one o.is).list source in
      does_begin o.one o.is (does_same
      (λ d c zs.
      kept_is now ip from kept o.one o.tuple k d
      ∙ ap (λ b. keeps_port now b kept o.one d) free
      ∙ ap (λ (x : Carried). adds now o.one kept (with_tuple (reversed kept) x.packet) d) c
      ∙ ap (λ u. adds now o.one kept (with_tuple u copy.packet) d) (sym is))
      (each o.one o.is))

  pub port_does : {more : List Effect} (ip : Ip4) (kept back to : Tuple) (port : ℕ) → kept ≡ reversed (from_address ip from) → IsSourceIn kept (Port port) (zone_at zones z) → back ≡ with_port port kept → to ≡ reversed back
      → more ≡ effects ++ PickPort copy.regs.dp port ∷ []
      → ((n : Newcomer) → newcomer z zones copy.packet ≡ Some n → ActionDoes (adds now n back (with_tuple to copy.packet)) t copy next zones after more all [])
      → ActionDoes (begins z (hides_behind now ip)) t copy next zones after effects all []
  port_does {more} ip kept back to port k source bk is told each =
      let o : IsOne z zones copy.packet from = is_one z zones copy.packet from h in
      let n = o.one in
      let s : IsSource kept (Port port) n.list = subst (IsSourceIn kept (Port port)) (newcomer_at z zones copy.packet n o.is).list source in
      let inner : ActionDoes (adds now n (with_port port kept) (with_tuple (reversed (with_port port kept)) copy.packet)) t copy next zones after more all [] =
      does_same
      (λ d c zs.
      ap (λ u. adds now n u (with_tuple (reversed u) copy.packet) d) (sym bk)
      ∙ ap (λ u. adds now n back (with_tuple u copy.packet) d) (sym is))
      (each n o.is) in
      does_begin n o.is (does_same
      (λ d c zs. kept_is now ip from kept n o.tuple k d ∙ ap (λ b. keeps_port now b kept n d) s.0 ∙ ap (λ b. picks_port now b kept n d) s.1)
      (does_hide now n kept port s.2 s.3 told inner))

module _ (now : ℕ) {z : ℕ} {zones : ZoneLists} {copy : Carried} {effects all : List Effect} (from : Tuple) (h : new_tuple z zones copy.packet ≡ Some from) where
  -- no backend may be picked
  pub none_does : (vip : Backend) (bs : List Backend) → is_balanced from.protocol ≡ true → backend_in from bs (zone_at zones z) ≡ None → all ≡ effects ++ drop_at copy.table NoLiveBackend copy.regs ∷ []
      → ActionDoes (begins z (balances now vip bs)) Ends copy copy zones zones effects all []
  none_does vip bs tcp none told =
      let o : IsOne z zones copy.packet from = is_one z zones copy.packet from h in
      let n = o.one in
      let legal = filter (is_free_backend n.list n.tuple) bs in
      let empty : legal ≡ [] =
      no_backend n.tuple legal (ap (λ u. backend_of u (filter (is_free_backend n.list u) bs)) o.tuple ∙ ap (backend_in from bs) (sym (newcomer_at z zones copy.packet n o.is).list) ∙ none) in
      does_begin n o.is (does_drop NoLiveBackend told (λ rest.
      ap (λ (u : Tuple). cond (is_balanced u.protocol) (balances_over now vip legal n (having copy zones [] rest)) (goes_next (having copy zones [] rest))) o.tuple
      ∙ ap (λ b. cond b (balances_over now vip legal n (having copy zones [] rest)) (goes_next (having copy zones [] rest))) tcp
      ∙ ap (λ l. balances_over now vip l n (having copy zones [] rest)) empty))

  -- a protocol that no balancer serves
  pub other_does : (vip : Backend) (bs : List Backend) → is_balanced from.protocol ≡ false → all ≡ effects → ActionDoes (begins z (balances now vip bs)) Next copy copy zones zones effects all []
  other_does vip bs tcp told =
      let o : IsOne z zones copy.packet from = is_one z zones copy.packet from h in
      let n = o.one in
      let legal = filter (is_free_backend n.list n.tuple) bs in
      does_begin n o.is (does_quietly told (λ rest.
      ap (λ (u : Tuple). cond (is_balanced u.protocol) (balances_over now vip legal n (having copy zones [] rest)) (goes_next (having copy zones [] rest))) o.tuple
      ∙ ap (λ b. cond b (balances_over now vip legal n (having copy zones [] rest)) (goes_next (having copy zones [] rest))) tcp))

  -- no port is free
  pub stuck_does : (ip : Ip4) (kept : Tuple) → kept ≡ reversed (from_address ip from) → IsSourceIn kept NoneFree (zone_at zones z) → all ≡ effects ++ drop_at copy.table NoFreePort copy.regs ∷ []
      → ActionDoes (begins z (hides_behind now ip)) Ends copy copy zones zones effects all []
  stuck_does ip kept k source told =
      let o : IsOne z zones copy.packet from = is_one z zones copy.packet from h in
      let n = o.one in
      let s : IsSource kept NoneFree n.list = subst (IsSourceIn kept NoneFree) (newcomer_at z zones copy.packet n o.is).list source in
      does_begin n o.is (does_drop NoFreePort told (λ rest.
      ap (λ (u : Tuple). keeps_port now (is_free n.list (reversed (from_address ip u))) (reversed (from_address ip u)) n (having copy zones [] rest)) o.tuple
      ∙ ap (λ u. keeps_port now (is_free n.list u) u n (having copy zones [] rest)) (sym k)
      ∙ ap (λ b. keeps_port now b kept n (having copy zones [] rest)) s.0 ∙ ap (λ b. picks_port now b kept n (having copy zones [] rest)) s.1))
