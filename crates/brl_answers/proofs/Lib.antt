pub mod DeliveryLemmas
pub mod FilesLemmas
pub mod MakingLemmas
pub mod StepLemmas
