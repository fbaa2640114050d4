pub mod BitLemmas
pub mod GroupLemmas
pub mod Lists
pub mod MaskLemmas
