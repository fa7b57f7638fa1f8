-- From one datapath into the next, and through a router.
pub mod Partners
pub mod PatchKeys
pub mod FirstBeyond
pub mod PatchActions
pub mod Patching
pub mod RouterWay
pub mod Through
pub mod Passing
pub mod Everywhere
pub mod ThroughSwitches
