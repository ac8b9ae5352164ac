pub mod SmallSite
