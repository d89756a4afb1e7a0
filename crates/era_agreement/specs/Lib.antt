pub mod SentPackets
pub mod Agreement
pub mod AgreementLaws
pub mod TwoEras
