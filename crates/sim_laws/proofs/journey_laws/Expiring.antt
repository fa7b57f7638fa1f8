-- Without its idle connections a good list is good.
use Rattle.std.specs.Prelude.{ℕ}
use Rattle.conn_table.specs.Connections.{ConnectionList, expired}
use Rattle.net_model.proofs.KeptEntries.{index_of, is_index, expired_among, expired_law}
use Rattle.sim_laws.specs.pipelines.HeldLists.{IsGoodList}

pub expired_good : (now : ℕ) (list : ConnectionList) → IsGoodList list → IsGoodList (expired now list)
expired_good now list good = let law = expired_law now list good.zone.law in record {
  forwards = index_of (expired now list);
  zone = record { law = law; index = is_index (expired now list) law };
  within = λ t e m. good.within t e (expired_among now list t e m);
}
