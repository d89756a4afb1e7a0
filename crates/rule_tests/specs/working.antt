pub mod MonitorPremises
