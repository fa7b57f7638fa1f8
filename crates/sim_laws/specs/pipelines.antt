-- What the tables of a switch's two pipelines do, table by table.
pub mod WalkOn
pub mod HeldLists
pub mod Standing
pub mod Pieces
pub mod FirstTable
pub mod Ingress
pub mod Egress
